-- Rows of completed tables, and the orders in which they are gone through.
use Rattle.std.specs.Prelude.{◌≡◌, ◌≢◌, ◌↔◌, ℕ, Bool, true, false, List, length, Contains, AllPairs, Option, Some, None}
use Rattle.std.specs.declared.cmp.Ordering.{Ordering}
use Rattle.std.specs.declared.cmp.Ordering.TheVariants.{Less, Greater}
use Rattle.std.specs.Ordering.{nat_cmp, ordering_then}
use Rattle.dl_base.specs.Clashes.{inverse_cmp}
use Rattle.dl_base.specs.declared.concept.Role.{Role}
use Rattle.dl_base.specs.declared.concept.Basic.{Basic}
use Rattle.dl_base.specs.declared.concept.Basic.TheVariants as basic
use Rattle.dl_base.specs.declared.element.Elem.{Elem}
use Rattle.dl_base.specs.declared.element.Elem.TheVariants as elem
use Rattle.dl_base.specs.declared.element.Witness.{Witness}

-- the element is in the concept, or the named role leads from one element to another
pub data TableRow : Type 0 where
  ConceptRow : ℕ → Elem → TableRow
  RoleRow : ℕ → Elem → Elem → TableRow

-- the row of the role name from e to f, or the other way where it is the inverse
abbrev pub turned_row : Bool → ℕ → Elem → Elem → TableRow
turned_row false p e f = RoleRow p e f
turned_row true p e f = RoleRow p f e

-- the row by which e has f by the role
abbrev pub edge_row : Role → Elem → Elem → TableRow
edge_row r e f = turned_row r.inverse r.name e f

-- some row leads from e by the role
abbrev pub HasEdge : List TableRow → Role → Elem → Type 0
HasEdge table r e = (f : Elem) × Contains table (edge_row r e f)

-- the element is in the basic concept by the rows
abbrev pub IsIn : List TableRow → Basic → Elem → Type 0
IsIn table (basic.Concept c) e = Contains table (ConceptRow c e)
IsIn table (basic.Exists r) e = HasEdge table r e

-- witnesses by the place of the role's name, direct before inverse, then by the generation
abbrev pub witness_cmp : Witness → Witness → Ordering
witness_cmp w v = ordering_then (nat_cmp w.role.name v.role.name) (ordering_then (inverse_cmp w.role.inverse v.role.inverse) (nat_cmp w.generation v.generation))

-- a witness of the role, of whatever generation
abbrev pub IsWitnessOf : Role → Elem → Type 0
IsWitnessOf r e = (w : Witness) × (e ≡ elem.Shared w) × (w.role ≡ r)

-- individuals by their numbers, before all witnesses
abbrev pub elem_cmp : Elem → Elem → Ordering
elem_cmp (elem.Named a) (elem.Named b) = nat_cmp a b
elem_cmp (elem.Named a) (elem.Shared w) = Less
elem_cmp (elem.Shared w) (elem.Named a) = Greater
elem_cmp (elem.Shared w) (elem.Shared v) = witness_cmp w v

-- the element is above that one, or there is none that it has to be above
abbrev pub IsAbove : Option Elem → Elem → Type 0
IsAbove None e = Unit {0}
IsAbove (Some after) e = elem_cmp after e ≡ Less

-- the least of these elements that is above, or none exactly where there is none
abbrev pub IsLeastAbove : (Elem → Type 0) → Option Elem → Option Elem → Type 0
IsLeastAbove P after None = (e : Elem) → P e → IsAbove after e → ⊥
IsLeastAbove P after (Some e) = P e × IsAbove after e × ((f : Elem) → P f → IsAbove after f → elem_cmp e f ≢ Greater)

-- there are so many of these elements
pub record AreCounted (P : Elem → Type 0) (count : ℕ) : Type 0 where
  pub members : List Elem
  pub distinct : AllPairs (λ e f. e ≢ f) members
  pub each : (e : Elem) → Contains members e ↔ P e
  pub number : count ≡ length members
