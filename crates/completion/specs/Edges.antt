-- What completed tables say, by numbers: basic concepts at elements, and roles between them. Each witness is in the generation
-- that its role has.
use Rattle.std.specs.Prelude.{◌≡◌, ℕ, Bool, true, false, List, Contains}
use Rattle.dl_base.specs.Completion.{DerivedBehind, RolePoints}
use Rattle.dl_base.specs.Derivation.{inverse}
use Rattle.dl_base.specs.Ontology.{Terminology}
use Rattle.dl_base.specs.Tables.{TableRow, ConceptRow, RoleRow}
use Rattle.dl_base.specs.declared.concept.Basic.{Basic}
use Rattle.dl_base.specs.declared.concept.Basic.TheVariants as basic
use Rattle.dl_base.specs.declared.concept.Role.{Role}
use Rattle.dl_base.specs.declared.element.Elem.{Elem}
use Rattle.dl_base.specs.declared.element.Elem.TheVariants as elem
use Rattle.dl_base.specs.declared.element.Witness.{Witness}
use Rattle.dl_base.specs.declared.row.Row.{Row}
use Rattle.dl_base.specs.declared.row.Row.TheVariants as row
use Rattle.completion.specs.Numbered.{IsDerivedAt, IsLiveRole, IsRowNamed, PointsTo}

-- the row by which n has m by the role
abbrev pub numbered_row : Bool → ℕ → ℕ → ℕ → Row
numbered_row false p n m = row.Role p n m
numbered_row true p n m = row.Role p m n

-- the witness of the role, where roles have these generations
abbrev pub witness_of : (Role → ℕ) → Role → Witness
witness_of generation r = record { role = r; generation = generation r }

-- it is the witness of a live role
pub record IsLiveWitness (o : Terminology) (rows : List Row) (generation : Role → ℕ) (w : Witness) : Type 0 where
  pub live : IsLiveRole o rows w.role
  pub now : w.generation ≡ generation w.role

-- the element is an individual of the rows or the witness of a live role, and the basic concept is derived there
abbrev pub IsDerivedElem : Terminology → List Row → (Role → ℕ) → Basic → Elem → Type 0
IsDerivedElem o rows generation b (elem.Named n) = IsRowNamed rows n × IsDerivedAt o rows n b
IsDerivedElem o rows generation b (elem.Shared w) = IsLiveWitness o rows generation w × DerivedBehind o w.role b

-- the element is such a one and points to the witness of the role
abbrev pub ElemPoints : Terminology → List Row → (Role → ℕ) → Role → Elem → Type 0
ElemPoints o rows generation r (elem.Named n) = IsRowNamed rows n × PointsTo o rows n r
ElemPoints o rows generation r (elem.Shared w) = IsLiveWitness o rows generation w × RolePoints o w.role r

-- The role leads from e to f: by a row, or since e points to the witness f, or f by the inverse to the witness e.
pub data LeadsBetween (o : Terminology) (rows : List Row) (generation : Role → ℕ) (r : Role) : Elem → Elem → Type 0 where
  by_row : (n m : ℕ) → Contains rows (numbered_row r.inverse r.name n m) → LeadsBetween o rows generation r (elem.Named n) (elem.Named m)
  forth : (e : Elem) → ElemPoints o rows generation r e → LeadsBetween o rows generation r e (elem.Shared (witness_of generation r))
  back : (f : Elem) → ElemPoints o rows generation (inverse r) f → LeadsBetween o rows generation r (elem.Shared (witness_of generation (inverse r))) f

-- a row of the completed tables, by numbers
abbrev pub IsTableRow : Terminology → List Row → (Role → ℕ) → TableRow → Type 0
IsTableRow o rows generation (ConceptRow c e) = IsDerivedElem o rows generation (basic.Concept c) e
IsTableRow o rows generation (RoleRow p e f) = LeadsBetween o rows generation (record { name = p; inverse = false }) e f
