-- The rows that tables keep.
use Rattle.std.specs.Prelude.{◌≡◌, ◌↔◌, ℕ, ◌+◌, Bool, true, false, List, [], ◌∷◌, ◌++◌, map, Contains, slice_index_or}
use Rattle.dl_base.specs.Tables.{TableRow, ConceptRow, RoleRow, HasEdge, edge_row}
use Rattle.dl_base.specs.declared.concept.Role.{Role}
use Rattle.dl_base.specs.declared.element.Elem.{Elem}
use Rattle.dl_base.specs.declared.element.Elem.TheVariants as elem
use Rattle.completion.specs.EdgeLists.{IsTarget}
use Rattle.completion.specs.declared.edges.Edge.{Edge}
use Rattle.completion.specs.declared.rows.BothWays.{BothWays}
use Rattle.completion.specs.declared.rows.RoleLists.{RoleLists as Lists}

-- the elements from which a role leads, those that point to its witness, and the generation of the witness
abbrev pub RoleLists : Type 0
RoleLists = Lists

-- For each concept, by its place, the elements at which it is derived; for each role name, by its place, the lists of the
-- role and of its inverse; and the rows among individuals.
pub record KeptRows : Type 0 where
  pub concepts : List (List Elem)
  pub roles : List BothWays
  pub edges : List Edge

-- the elements of the concept at a place; none past the last
abbrev pub elements_at : List (List Elem) → ℕ → List Elem
elements_at concepts c = slice_index_or concepts c []

-- nothing leads by the role, and no element points to its witness
abbrev pub no_lists : RoleLists
no_lists = record { sources = []; pointing = []; generation = 0 }

abbrev pub one_way : Bool → BothWays → RoleLists
one_way false x = x.direct
one_way true x = x.inverse

-- the lists of the role; none past the last name
abbrev pub lists_at : List BothWays → Role → RoleLists
lists_at roles r = one_way r.inverse (slice_index_or roles r.name (record { direct = no_lists; inverse = no_lists }))

-- the witness of the role in this generation
abbrev pub witness_at : Role → ℕ → Elem
witness_at r generation = elem.Shared (record { role = r; generation = generation })

-- the concept rows, where the first list is of the concept at this place
abbrev pub concept_rows : ℕ → List (List Elem) → List TableRow
concept_rows c [] = []
concept_rows c (es ∷ rest) = map (ConceptRow c) es ++ concept_rows (c + 1) rest

-- the rows to the witness of a role
abbrev pub pointing_rows : Role → RoleLists → List TableRow
pointing_rows r x = map (λ (e : Elem). edge_row r e (witness_at r x.generation)) x.pointing

-- the rows to witnesses, where the first lists are of the role name at this place
abbrev pub witness_rows : ℕ → List BothWays → List TableRow
witness_rows p [] = []
witness_rows p (x ∷ rest) = (pointing_rows (record { name = p; inverse = false }) x.direct ++ pointing_rows (record { name = p; inverse = true }) x.inverse) ++ witness_rows (p + 1) rest

-- the row among individuals
abbrev pub individual_row : Edge → TableRow
individual_row x = RoleRow x.role (elem.Named x.from) (elem.Named x.to)

-- all rows
abbrev pub table_of : KeptRows → List TableRow
table_of k = concept_rows 0 k.concepts ++ (map individual_row k.edges ++ witness_rows 0 k.roles)

-- the first element is an individual that has the second by a row of the role
abbrev pub IsRowFrom : KeptRows → Role → Elem → Elem → Type 0
IsRowFrom k r (elem.Named n) f = IsTarget k.edges r n f
IsRowFrom k r (elem.Shared w) f = ⊥

-- the first element points to the witness of the role, and the second is this witness
abbrev pub PointsHere : KeptRows → Role → Elem → Elem → Type 0
PointsHere k r e f = Contains (lists_at k.roles r).pointing e × (f ≡ witness_at r (lists_at k.roles r).generation)

-- a role leads by these rows exactly from the elements that are listed for it
pub record AreListedSources (k : KeptRows) : Type 0 where
  pub each : (r : Role) (e : Elem) → HasEdge (table_of k) r e ↔ Contains (lists_at k.roles r).sources e
