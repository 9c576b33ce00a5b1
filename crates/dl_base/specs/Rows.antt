-- Rows, and what an individual holds by them.
use Rattle.std.specs.Prelude.{◌≡◌, ℕ, ◌⊎◌, Bool, true, false, List, slice_get, Some, Contains}
use Rattle.std.specs.Cmp.Lexicographic.{slice_cmp}
use Rattle.std.specs.declared.cmp.Ordering.{Ordering}
use Rattle.std.specs.declared.cmp.Ordering.TheVariants.{Less, Greater}
use Rattle.std.specs.Ordering.{nat_cmp, ordering_then}
use Rattle.std.specs.List.Sorted.{IsStrictlySortedBy}
use Rattle.dl_base.specs.Ontology.{Terminology}
use Rattle.dl_base.specs.declared.concept.Role.{Role}
use Rattle.dl_base.specs.declared.concept.Basic.{Basic}
use Rattle.dl_base.specs.declared.concept.Basic.TheVariants as basic
use Rattle.dl_base.specs.declared.row.Row.{Row}
use Rattle.dl_base.specs.declared.row.Row.TheVariants as numbered
use Rattle.dl_base.specs.declared.row.NamedRow.{NamedRow}
use Rattle.dl_base.specs.declared.row.NamedRow.TheVariants as row

-- names are ordered by their bytes
abbrev pub name_cmp : List ℕ → List ℕ → Ordering
name_cmp = slice_cmp nat_cmp

-- concept rows before role rows, then by names from left to right
abbrev pub row_cmp : NamedRow → NamedRow → Ordering
row_cmp (row.Concept c a) (row.Concept d b) = ordering_then (name_cmp c d) (name_cmp a b)
row_cmp (row.Concept c a) (row.Role q x y) = Less
row_cmp (row.Role p a b) (row.Concept d x) = Greater
row_cmp (row.Role p a b) (row.Role q x y) = ordering_then (name_cmp p q) (ordering_then (name_cmp a x) (name_cmp b y))

-- rows by numbers: concept rows before role rows, then by their numbers from left to right
abbrev pub numbered_row_cmp : Row → Row → Ordering
numbered_row_cmp (numbered.Concept c a) (numbered.Concept d b) = ordering_then (nat_cmp c d) (nat_cmp a b)
numbered_row_cmp (numbered.Concept c a) (numbered.Role q x y) = Less
numbered_row_cmp (numbered.Role p a b) (numbered.Concept d x) = Greater
numbered_row_cmp (numbered.Role p a b) (numbered.Role q x y) = ordering_then (nat_cmp p q) (ordering_then (nat_cmp a x) (nat_cmp b y))

-- the rows of a base are a strictly rising list
abbrev pub AreRows : List NamedRow → Type 0
AreRows = IsStrictlySortedBy row_cmp

-- the strictly rising list of the rows that are asserted, each once however often it stands there
pub record AreRowsOf (asserted rows : List NamedRow) : Type 0 where
  pub rising : AreRows rows
  pub only : (r : NamedRow) → Contains rows r → Contains asserted r
  pub each : (r : NamedRow) → Contains asserted r → Contains rows r

-- the row by which a has b by the role of name p, read the other way where it is the inverse
abbrev pub row_of : List ℕ → Bool → List ℕ → List ℕ → NamedRow
row_of p true a b = row.Role p b a
row_of p false a b = row.Role p a b

-- a has b by the role in a row
pub record HasRow (o : Terminology) (rows : List NamedRow) (r : Role) (a b : List ℕ) : Type 0 where
  pub name : List ℕ
  pub named : slice_get o.roles r.name ≡ Some name
  pub there : Contains rows (row_of name r.inverse a b)

-- a is in the concept by a row
pub record HasConceptRow (o : Terminology) (rows : List NamedRow) (c : ℕ) (a : List ℕ) : Type 0 where
  pub name : List ℕ
  pub named : slice_get o.concepts c ≡ Some name
  pub there : Contains rows (row.Concept name a)

-- what an individual holds: each concept of its rows, and whatever has a successor by a role of which it has a row
abbrev pub Held : Terminology → List NamedRow → List ℕ → Basic → Type 0
Held o rows a (basic.Concept c) = HasConceptRow o rows c a
Held o rows a (basic.Exists r) = (b : List ℕ) × HasRow o rows r a b

-- a stands in the row
abbrev pub Names : List ℕ → NamedRow → Type 0
Names a (row.Concept c x) = a ≡ x
Names a (row.Role p x y) = (a ≡ x) ⊎ (a ≡ y)

-- an individual is a name in some row
abbrev pub IsIndividual : List NamedRow → List ℕ → Type 0
IsIndividual rows a = (row : NamedRow) × Contains rows row × Names a row

-- the strictly rising list of the individuals
pub record AreIndividuals (rows : List NamedRow) (names : List (List ℕ)) : Type 0 where
  pub rising : IsStrictlySortedBy name_cmp names
  pub only : (a : List ℕ) → Contains names a → IsIndividual rows a
  pub each : (a : List ℕ) → IsIndividual rows a → Contains names a
