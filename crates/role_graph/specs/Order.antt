-- The least role of a kind.
use Rattle.std.specs.Prelude.{◌≡◌, ◌≢◌, ◌⊎◌, Option, Some, None}
use Rattle.std.specs.declared.cmp.Ordering.TheVariants.{Less, Greater}
use Rattle.dl_base.specs.Clashes.{role_cmp}
use Rattle.dl_base.specs.Ontology.{Terminology}
use Rattle.dl_base.specs.declared.concept.Role.{Role}

-- the least of these in role order, or none exactly where there is none
abbrev pub IsLeastRole : Terminology → (Role → Type 0) → Option Role → Type 0
IsLeastRole o P None = (r : Role) → P r → ⊥
IsLeastRole o P (Some r) = P r × ((s : Role) → P s → role_cmp o r s ≢ Greater)

-- the lesser of the known role and another, or the other where none is known
abbrev pub IsLesser : Terminology → Option Role → Role → Role → Type 0
IsLesser o None s result = result ≡ s
IsLesser o (Some r) s result = ((result ≡ r) × (role_cmp o r s ≢ Greater)) ⊎ ((result ≡ s) × (role_cmp o s r ≡ Less))
