-- What the closure of a set of basic concepts is.
use Rattle.std.specs.Prelude.{◌≡◌, ℕ, ◌<◌, ◌↔◌, List, length, map, Option, Some, None}
use Rattle.dl_base.specs.Derivation.{Derives, Violates}
use Rattle.dl_base.specs.Ontology.{Terminology}
use Rattle.dl_base.specs.Sets.{HasBasic}
use Rattle.dl_base.specs.declared.concept.Basic.{Basic}
use Rattle.dl_base.specs.declared.concept.Inclusion.{Inclusion}

-- a set of basic concepts, as the words of its bits, and the number of an inclusion
pub record ClosedSet : Type 0 where
  pub derived : List ℕ
  pub violated : Option ℕ

-- the least number, counted from 1, of a violated inclusion, and none where no inclusion is violated
abbrev pub IsLeastViolated : List Inclusion → (Basic → Type 0) → Option ℕ → Type 0
IsLeastViolated inclusions held None = (k : ℕ) → Violates inclusions held k → ⊥
IsLeastViolated inclusions held (Some k) = Violates inclusions held k × ((j : ℕ) → j < k → Violates inclusions held j → ⊥)

-- the set has exactly what is derived from what is held, and the number is that of the first violated inclusion
pub record IsClosure (inclusions : List Inclusion) (held : Basic → Type 0) (closed : ClosedSet) : Type 0 where
  pub derived : (b : Basic) → HasBasic closed.derived b ↔ Derives inclusions held b
  pub violated : IsLeastViolated inclusions held closed.violated

-- for each inclusion, how many members its body has
abbrev pub body_lengths : List Inclusion → List ℕ
body_lengths inclusions = map (λ i. length i.body) inclusions

-- the scratch is for closures under the inclusions of the ontology
abbrev pub IsScratchOf : Terminology → List ℕ → Type 0
IsScratchOf o scratch = scratch ≡ body_lengths o.inclusions
