-- Rows in a list, and the elements that are sought in them.
use Rattle.std.specs.Prelude.{◌≡◌, ◌≢◌, ◌⊎◌, List, Contains, Option, Some}
use Rattle.std.specs.declared.cmp.Ordering.TheVariants.{Greater}
use Rattle.dl_base.specs.Tables.{TableRow, ConceptRow, RoleRow, edge_row, elem_cmp}
use Rattle.dl_base.specs.declared.element.Elem.{Elem}
use Rattle.listed_tables.specs.declared.sought.Sought.{Sought}
use Rattle.listed_tables.specs.declared.sought.Sought.TheVariants as sought
use Rattle.listed_tables.specs.declared.tables.ListedRow.{ListedRow}
use Rattle.listed_tables.specs.declared.tables.ListedRow.TheVariants as listed

-- the row that a listed one is
abbrev pub table_row : ListedRow → TableRow
table_row (listed.Concept c e) = ConceptRow c e
table_row (listed.Role p e f) = RoleRow p e f

-- the row gives the element: it is in the concept, the role leads from it, or the role leads to it from that one
abbrev pub GivesElem : Sought → Elem → ListedRow → Type 0
GivesElem (sought.Members c) e r = table_row r ≡ ConceptRow c e
GivesElem (sought.Sources p) e r = (f : Elem) × (table_row r ≡ edge_row p e f)
GivesElem (sought.Targets p from) e r = table_row r ≡ edge_row p from e

-- some row gives the element
abbrev pub IsGivenBy : Sought → List ListedRow → Elem → Type 0
IsGivenBy s rows e = (r : ListedRow) × Contains rows r × GivesElem s e r

-- it is one of the two, where there are two, and not above either
pub record IsLower (least : Option Elem) (e found : Elem) : Type 0 where
  pub one : (least ≡ Some found) ⊎ (found ≡ e)
  pub not_above : elem_cmp found e ≢ Greater
  pub not_above_least : (x : Elem) → least ≡ Some x → elem_cmp found x ≢ Greater
