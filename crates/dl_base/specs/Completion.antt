-- Completed tables: the rows of a base with what is derived, and one shared witness for each role that needs one.
use Rattle.std.specs.Prelude.{◌≡◌, ◌≢◌, ◌↔◌, ◌⊎◌, ℕ, true, false, List, slice_get, Some, Contains}
use Rattle.dl_base.specs.Ontology.{Terminology}
use Rattle.dl_base.specs.Derivation.{Derives, HeldBehind, inverse}
use Rattle.dl_base.specs.Rows.{HasRow, IsIndividual}
use Rattle.dl_base.specs.Unfolding.{Named, DerivedAt}
use Rattle.dl_base.specs.Tables.{TableRow, ConceptRow, RoleRow}
use Rattle.dl_base.specs.declared.concept.Role.{Role}
use Rattle.dl_base.specs.declared.concept.Basic.{Basic}
use Rattle.dl_base.specs.declared.concept.Basic.TheVariants as basic
use Rattle.dl_base.specs.declared.element.Elem.{Elem}
use Rattle.dl_base.specs.declared.element.Elem.TheVariants as elem
use Rattle.dl_base.specs.declared.row.NamedRow.{NamedRow}

-- what is derived at the end of every edge of the role, whatever it begins with
abbrev pub DerivedBehind : Terminology → Role → Basic → Type 0
DerivedBehind o r = Derives o.inclusions (HeldBehind r)

-- An individual needs the witness of a role where a successor is derived and no row gives one.
pub record IndividualPoints (o : Terminology) (rows : List NamedRow) (a : List ℕ) (r : Role) : Type 0 where
  pub individual : IsIndividual rows a
  pub derived : DerivedAt o rows (Named a) (basic.Exists r)
  pub no_row : (b : List ℕ) → HasRow o rows r a b → ⊥

-- The witness of s needs that of r where a successor is derived behind s, and going back along s gives none.
pub record RolePoints (o : Terminology) (s r : Role) : Type 0 where
  pub derived : DerivedBehind o s (basic.Exists r)
  pub not_back : r ≢ inverse s

-- a role is live where a finite chain of points leads to it from an individual
pub data IsLive (o : Terminology) (rows : List NamedRow) : Role → Type 0 where
  first : {r : Role} (a : List ℕ) → IndividualPoints o rows a r → IsLive o rows r
  next : {s r : Role} → IsLive o rows s → RolePoints o s r → IsLive o rows r

-- an individual, or the one witness of a role
pub data Node : Type 0 where
  Individual : List ℕ → Node
  WitnessOf : Role → Node

-- individuals and live witnesses
abbrev pub IsNode : Terminology → List NamedRow → Node → Type 0
IsNode o rows (Individual a) = IsIndividual rows a
IsNode o rows (WitnessOf r) = IsLive o rows r

-- what is derived at a node
abbrev pub DerivedAtNode : Terminology → List NamedRow → Node → Basic → Type 0
DerivedAtNode o rows (Individual a) = DerivedAt o rows (Named a)
DerivedAtNode o rows (WitnessOf r) = DerivedBehind o r

-- the node points to the witness of the role
abbrev pub NodePoints : Terminology → List NamedRow → Node → Role → Type 0
NodePoints o rows (Individual a) r = IndividualPoints o rows a r
NodePoints o rows (WitnessOf s) r = IsLive o rows s × RolePoints o s r

-- two individuals, by a row of the base
pub record IsBaseRow (o : Terminology) (rows : List NamedRow) (p : ℕ) (x y : Node) : Type 0 where
  pub from : List ℕ
  pub to : List ℕ
  pub from_is : x ≡ Individual from
  pub to_is : y ≡ Individual to
  pub row : HasRow o rows (record { name = p; inverse = false }) from to

-- The role at place p leads from x to y: by a row of the base, or since x points to the witness y, or y by the inverse to the
-- witness x.
abbrev pub RoleLeads : Terminology → List NamedRow → ℕ → Node → Node → Type 0
RoleLeads o rows p x y = IsBaseRow o rows p x y
    ⊎ ((y ≡ WitnessOf (record { name = p; inverse = false })) × NodePoints o rows x (record { name = p; inverse = false }))
    ⊎ ((x ≡ WitnessOf (record { name = p; inverse = true })) × NodePoints o rows y (record { name = p; inverse = true }))

-- the element is the node: an individual has its number in the list of names, a witness its role's generation
abbrev pub Represents : List (List ℕ) → (Role → ℕ) → Elem → Node → Type 0
Represents names generation (elem.Named n) (Individual a) = slice_get names n ≡ Some a
Represents names generation (elem.Shared w) (WitnessOf r) = (w.role ≡ r) × (w.generation ≡ generation r)
Represents names generation (elem.Named n) (WitnessOf r) = ⊥
Represents names generation (elem.Shared w) (Individual a) = ⊥

-- the element is a node at which the concept at place c is derived
pub record CompletesConcept (o : Terminology) (rows : List NamedRow) (names : List (List ℕ)) (generation : Role → ℕ) (c : ℕ) (e : Elem) : Type 0 where
  pub node : Node
  pub is : Represents names generation e node
  pub there : IsNode o rows node
  pub derived : DerivedAtNode o rows node (basic.Concept c)

-- the elements are nodes between which the role at place p leads
pub record CompletesRole (o : Terminology) (rows : List NamedRow) (names : List (List ℕ)) (generation : Role → ℕ) (p : ℕ) (e f : Elem) : Type 0 where
  pub from : Node
  pub to : Node
  pub from_is : Represents names generation e from
  pub to_is : Represents names generation f to
  pub leads : RoleLeads o rows p from to

-- a row of the completed tables
abbrev pub IsCompletedRow : Terminology → List NamedRow → List (List ℕ) → (Role → ℕ) → TableRow → Type 0
IsCompletedRow o rows names generation (ConceptRow c e) = CompletesConcept o rows names generation c e
IsCompletedRow o rows names generation (RoleRow p e f) = CompletesRole o rows names generation p e f

-- The table has the completed rows and no others, by the numbers that the individuals have in a list of names and by the
-- generations of the roles.
pub record AreCompleted (o : Terminology) (rows : List NamedRow) (names : List (List ℕ)) (generation : Role → ℕ) (table : List TableRow) : Type 0 where
  pub numbered : (a : List ℕ) → IsIndividual rows a → Contains names a
  pub each : (row : TableRow) → Contains table row ↔ IsCompletedRow o rows names generation row
