-- axioms, and what they add to an ontology
use Rattle.std.specs.Prelude.{◌≡◌, ℕ, ◌+◌, ◌<◌, ◌≤◌, List, [], ◌∷◌, ◌++◌, length, All, Contains, slice_get, Some, Result, Ok, Err, fold, if◌then◌else◌}
use Rattle.std.specs.List.{list_any, AllZip}
use Rattle.std.specs.Str.{bytes_eq}
use Rattle.dl_base.specs.Ontology.{Terminology, IsTerminology}
use Rattle.dl_base.specs.declared.concept.Basic.{Basic}
use Rattle.dl_base.specs.declared.concept.Basic.TheVariants as basic
use Rattle.dl_base.specs.declared.concept.Head.{Head}
use Rattle.dl_base.specs.declared.concept.Head.TheVariants as head
use Rattle.dl_base.specs.declared.concept.Inclusion.{Inclusion}
use Rattle.dl_base.specs.declared.axiom.NamedBasic.{NamedBasic}
use Rattle.dl_base.specs.declared.axiom.NamedBasic.TheVariants as named
use Rattle.dl_base.specs.declared.axiom.NamedHead.{NamedHead}
use Rattle.dl_base.specs.declared.axiom.NamedHead.TheVariants as named_head
use Rattle.dl_base.specs.declared.axiom.NamedInclusion.{NamedInclusion}
use Rattle.dl_base.specs.declared.ontology.Which.{Which}
use Rattle.dl_base.specs.declared.ontology.Which.TheVariants as which
use Rattle.dl_base.specs.declared.ontology.ExtendError.{ExtendError}
use Rattle.dl_base.specs.declared.ontology.ExtendError.TheVariants as errors

-- the names and the inclusions of an axiom
pub record Statement : Type 0 where
  pub concepts : List (List ℕ)
  pub roles : List (List ℕ)
  pub inclusions : List NamedInclusion

-- the name of the concept or role is one of these
abbrev pub IsNamed : List (List ℕ) → List (List ℕ) → NamedBasic → Type 0
IsNamed concepts roles (named.Concept name) = Contains concepts name
IsNamed concepts roles (named.Exists r) = Contains roles r.name

abbrev pub IsNamedHead : List (List ℕ) → List (List ℕ) → NamedHead → Type 0
IsNamedHead concepts roles (named_head.Basic b) = IsNamed concepts roles b
IsNamedHead concepts roles named_head.Nothing = Unit {0}

pub record AreNamed (concepts roles : List (List ℕ)) (i : NamedInclusion) : Type 0 where
  pub body : All (IsNamed concepts roles) i.body
  pub head : IsNamedHead concepts roles i.head

-- each inclusion has a member in its body, and its names are among the axiom's
pub record IsStatement (a : Statement) : Type 0 where
  pub some : All (λ i. 1 ≤ length i.body) a.inclusions
  pub named : All (AreNamed a.concepts a.roles) a.inclusions

-- the names with one more, which goes last where it is new
abbrev pub with_name : List (List ℕ) → List ℕ → List (List ℕ)
with_name names name = if list_any (bytes_eq name) names then names else names ++ name ∷ []

abbrev pub with_names : List (List ℕ) → List (List ℕ) → List (List ℕ)
with_names names new = fold with_name names new

-- the basic concept by the places of its name
abbrev pub Numbers : List (List ℕ) → List (List ℕ) → NamedBasic → Basic → Type 0
Numbers concepts roles (named.Concept name) (basic.Concept c) = slice_get concepts c ≡ Some name
Numbers concepts roles (named.Exists r) (basic.Exists s) = (slice_get roles s.name ≡ Some r.name) × (s.inverse ≡ r.inverse)
Numbers concepts roles (named.Concept name) (basic.Exists s) = ⊥
Numbers concepts roles (named.Exists r) (basic.Concept c) = ⊥

abbrev pub NumbersHead : List (List ℕ) → List (List ℕ) → NamedHead → Head → Type 0
NumbersHead concepts roles (named_head.Basic b) (head.Basic c) = Numbers concepts roles b c
NumbersHead concepts roles named_head.Nothing head.Nothing = Unit {0}
NumbersHead concepts roles (named_head.Basic b) head.Nothing = ⊥
NumbersHead concepts roles named_head.Nothing (head.Basic c) = ⊥

pub record NumbersInclusion (concepts roles : List (List ℕ)) (i : NamedInclusion) (j : Inclusion) : Type 0 where
  pub body : AllZip (Numbers concepts roles) i.body j.body
  pub head : NumbersHead concepts roles i.head j.head

-- the inclusions with more at the end, by the places of their names
pub record AddsInclusions (concepts roles : List (List ℕ)) (old : List Inclusion) (more : List NamedInclusion) (new : List Inclusion) : Type 0 where
  pub added : List Inclusion
  pub last : new ≡ old ++ added
  pub each : AllZip (NumbersInclusion concepts roles) more added

-- the axiom passes the limit
abbrev pub Passes : Terminology → Statement → Which → Type 0
Passes o a which.Conjuncts = All (λ i. length i.body ≤ 8) a.inclusions → ⊥
Passes o a which.Concepts = 512 < length (with_names o.concepts a.concepts)
Passes o a which.Roles = 256 < length (with_names o.roles a.roles)
Passes o a which.Inclusions = 4096 < length o.inclusions + length a.inclusions

-- it passes none of the limits before this one
abbrev pub PassesNoneBefore : Terminology → Statement → Which → Type 0
PassesNoneBefore o a which.Conjuncts = Unit {0}
PassesNoneBefore o a which.Concepts = Passes o a which.Conjuncts → ⊥
PassesNoneBefore o a which.Roles = (Passes o a which.Conjuncts → ⊥) × (Passes o a which.Concepts → ⊥)
PassesNoneBefore o a which.Inclusions = (Passes o a which.Conjuncts → ⊥) × (Passes o a which.Concepts → ⊥) × (Passes o a which.Roles → ⊥)

pub record IsExtended (o : Terminology) (a : Statement) (new : Terminology) : Type 0 where
  pub passes_none : (w : Which) → Passes o a w → ⊥
  pub concepts : new.concepts ≡ with_names o.concepts a.concepts
  pub roles : new.roles ≡ with_names o.roles a.roles
  pub inclusions : AddsInclusions new.concepts new.roles o.inclusions a.inclusions new.inclusions

-- the ontology with the axiom, or the first limit that it passes
abbrev pub Extends : Terminology → Statement → Result Terminology ExtendError → Type 0
Extends o a (Ok new) = IsExtended o a new
Extends o a (Err (errors.TooMany w)) = Passes o a w × PassesNoneBefore o a w
Extends o a (Err errors.NoMemory) = Unit {0}

-- the same of the three lists, which are an ontology again
abbrev pub Adds : Terminology → Statement → Result (Unit {0}) ExtendError → Terminology → Type 0
Adds o a (Ok _) new = IsTerminology new × IsExtended o a new
Adds o a (Err (errors.TooMany w)) new = Passes o a w × PassesNoneBefore o a w
Adds o a (Err errors.NoMemory) new = Unit {0}
