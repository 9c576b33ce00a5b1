-- The unfolded structure: individuals, and behind each whatever roles are derived there, without a bound.
use Rattle.std.specs.Prelude.{◌≡◌, ℕ, ◌⊎◌, false, List, slice_get, Some}
use Rattle.dl_base.specs.Ontology.{Terminology}
use Rattle.dl_base.specs.Derivation.{Derives, HeldBehind, inverse}
use Rattle.dl_base.specs.Rows.{Held, HasRow, IsIndividual}
use Rattle.dl_base.specs.declared.concept.Role.{Role}
use Rattle.dl_base.specs.declared.concept.Basic.{Basic}
use Rattle.dl_base.specs.declared.concept.Basic.TheVariants as basic
use Rattle.dl_base.specs.declared.row.NamedRow.{NamedRow}

-- an individual with the empty list of roles, or an element with one more role at the end of its list
pub data Element : Type 0 where
  Named : List ℕ → Element
  Next : Element → Role → Element

-- the basic concepts that an element begins with: what an individual holds, and behind a role its inverse alone
abbrev pub Start : Terminology → List NamedRow → Element → Basic → Type 0
Start o rows (Named a) b = Held o rows a b
Start o rows (Next e r) b = HeldBehind r b

-- what is derived at an element
abbrev pub DerivedAt : Terminology → List NamedRow → Element → Basic → Type 0
DerivedAt o rows e = Derives o.inclusions (Start o rows e)

-- An individual exists, and what extends an existing element by a role exactly where a successor by the role is derived
-- there. Named successors are not looked at.
abbrev pub Exists : Terminology → List NamedRow → Element → Type 0
Exists o rows (Named a) = IsIndividual rows a
Exists o rows (Next e r) = Exists o rows e × DerivedAt o rows e (basic.Exists r)

-- the concept of that name holds at e
abbrev pub HoldsConcept : Terminology → List NamedRow → List ℕ → Element → Type 0
HoldsConcept o rows name e = (c : ℕ) × (slice_get o.concepts c ≡ Some name) × DerivedAt o rows e (basic.Concept c)

-- two individuals, by a row
pub record IsRow (o : Terminology) (rows : List NamedRow) (r : Role) (e f : Element) : Type 0 where
  pub from : List ℕ
  pub to : List ℕ
  pub from_is : e ≡ Named from
  pub to_is : f ≡ Named to
  pub row : HasRow o rows r from to

-- e has f by the role: by a row, or one is the other extended
abbrev pub Edge : Terminology → List NamedRow → Role → Element → Element → Type 0
Edge o rows r e f = IsRow o rows r e f ⊎ (f ≡ Next e r) ⊎ (e ≡ Next f (inverse r))

-- the role of that name holds of e and f
abbrev pub HoldsRole : Terminology → List NamedRow → List ℕ → Element → Element → Type 0
HoldsRole o rows name e f = (p : ℕ) × (slice_get o.roles p ≡ Some name) × Edge o rows (record { name = p; inverse = false }) e f
