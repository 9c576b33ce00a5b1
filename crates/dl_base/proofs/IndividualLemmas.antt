-- The individuals of rows can be listed, in one way.
use Rattle.std.proofs.Common.{◌≡◌, ℕ, inl, inr, List, [], ◌∷◌, Contains, sym, arith}
use Rattle.std.specs.Prelude.{flat_map}
use Rattle.dl_base.specs.Numbers.{names_in}
use Rattle.dl_base.specs.Rows.{AreIndividuals, Names, name_cmp}
use Rattle.dl_base.specs.declared.row.NamedRow.{NamedRow}
use Rattle.dl_base.specs.declared.row.NamedRow.TheVariants as row
use Rattle.dl_base.proofs.InOrder.{in_order, in_order_rises, from_order, into_order}
use Rattle.dl_base.proofs.PlaceLemmas.{flat_part, flat_there}
use Rattle.dl_base.proofs.RisingLemmas.{contains_cases, same_rising}
use Rattle.dl_base.proofs.RowLemmas.{name_same, name_total}

pub names_row : (r : NamedRow) (a : List ℕ) → Contains (names_in r) a → Names a r
names_row (row.Concept c x) a there = elim (contains_cases x [] a there) [ inl same ↦ same | inr none ↦ absurd (omega (arith, none.1)) ]
names_row (row.Role p x y) a there = elim (contains_cases x (y ∷ []) a there) [
  | inl same ↦ inl same
  | inr later ↦ elim (contains_cases y [] a later) [ inl same ↦ inr same | inr none ↦ absurd (omega (arith, none.1)) ]
]

pub row_names : (r : NamedRow) (a : List ℕ) → Names a r → Contains (names_in r) a
row_names (row.Concept c x) a same = (0, omega arith, sym same)
row_names (row.Role p x y) a (inl same) = (0, omega arith, sym same)
row_names (row.Role p x y) a (inr same) = (1, omega arith, sym same)

-- the names in rows, each once, in their order
abbrev pub individuals : List NamedRow → List (List ℕ)
individuals rows = in_order name_cmp name_total name_same (flat_map names_in rows)

pub individuals_are : (rows : List NamedRow) → AreIndividuals rows (individuals rows)
individuals_are rows = record {
  rising = in_order_rises name_cmp name_total name_same (flat_map names_in rows);
  only = λ a there. let part = flat_part names_in rows a (from_order name_cmp name_total name_same (flat_map names_in rows) a there) in (part.0, part.1, names_row part.0 a part.2);
  each = λ a is. into_order name_cmp name_total name_same (flat_map names_in rows) a (flat_there names_in rows is.0 a is.1 (row_names is.0 a is.2));
}

pub individuals_once : (rows : List NamedRow) (xs ys : List (List ℕ)) → AreIndividuals rows xs → AreIndividuals rows ys → xs ≡ ys
individuals_once rows xs ys x y = same_rising name_cmp name_total name_same xs ys x.rising y.rising (λ a there. y.each a (x.only a there)) (λ a there. x.each a (y.only a there))
