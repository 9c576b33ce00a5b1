-- Laws of rows: their order, and the strictly rising lists of what is asserted.
use Rattle.std.proofs.Common.{◌≡◌, ℕ, suc, ◌⊎◌, inl, inr, Bool, true, false, not, List, [], ◌∷◌, ◌++◌, Contains, refl, sym, ◌∙◌, ap, subst, arith}
use Rattle.std.specs.Cmp.{IsTotalOrder}
use Rattle.std.specs.Cmp.Lexicographic.{slice_cmp}
use Rattle.std.specs.List.Sorted.{IsStrictlySortedBy}
use Rattle.std.specs.declared.cmp.Ordering.{Ordering}
use Rattle.std.specs.declared.cmp.Ordering.TheVariants.{Less, Equal, Greater}
use Rattle.std.specs.Ordering.{ordering_then, nat_cmp, on, then_cmp}
use Rattle.std.proofs.lemmas.Cmp.{nat_cmp_total, nat_list_cmp_total, lists_total, on_total, then_total}
use Rattle.dl_base.specs.Derivation.{inverse}
use Rattle.dl_base.specs.Ontology.{Terminology}
use Rattle.dl_base.specs.Rows.{name_cmp, row_cmp, numbered_row_cmp, row_of, AreRowsOf, HasRow, IsIndividual}
use Rattle.dl_base.specs.contracts.row.RowOrd.TheImpl.{cmp-value as key_order}
use Rattle.dl_base.specs.contracts.row.RowOrd.TheImpl.Laws.{total-law}
use Rattle.dl_base.specs.declared.concept.Role.{Role}
use Rattle.dl_base.specs.declared.row.Row.{Row}
use Rattle.dl_base.specs.declared.row.Row.TheVariants as numbered
use Rattle.dl_base.specs.declared.row.NamedRow.{NamedRow}
use Rattle.dl_base.specs.declared.row.NamedRow.TheVariants as row
use Rattle.dl_base.proofs.RisingLemmas.{nat_same, slice_same, same_rising, contains_cases}

-- concept rows come first
form_of : NamedRow → ℕ
form_of (row.Concept c a) = 0
form_of (row.Role p a b) = 1

words_of : NamedRow → List (List ℕ)
words_of (row.Concept c a) = c ∷ a ∷ []
words_of (row.Role p a b) = p ∷ a ∷ b ∷ []

pub then_equal : (r : Ordering) → ordering_then r Equal ≡ r
then_equal Less = refl
then_equal Equal = refl
then_equal Greater = refl

by_words : (x y : NamedRow) → then_cmp (on form_of nat_cmp) (on words_of (slice_cmp name_cmp)) x y ≡ row_cmp x y
unfolding form_of words_of
by_words (row.Concept c a) (row.Concept d b) = ap (ordering_then (name_cmp c d)) (then_equal (name_cmp a b))
by_words (row.Concept c a) (row.Role q x y) = refl
by_words (row.Role p a b) (row.Concept d x) = refl
by_words (row.Role p a b) (row.Role q x y) = ap (λ (r : Ordering). ordering_then (name_cmp p q) (ordering_then (name_cmp a x) r)) (then_equal (name_cmp b y))

pub total_as : {X : Type 0} (R S : X → X → Ordering) → ((x y : X) → R x y ≡ S x y) → IsTotalOrder R → IsTotalOrder S
total_as R S is t = record {
  antisymm = λ x y. rw (← is x y, ← is y x) (t.antisymm x y);
  trans = λ x y z e f. sym (is x z) ∙ t.trans x y z (is x y ∙ e) (is y z ∙ f);
  congr = λ x y z e. sym (is x z) ∙ (t.congr x y z (is x y ∙ e) ∙ is y z);
}

-- names are ordered, and so are rows
pub name_total : IsTotalOrder name_cmp
name_total = nat_list_cmp_total

pub name_same : (a b : List ℕ) → name_cmp a b ≡ Equal → a ≡ b
name_same = slice_same nat_cmp nat_same

pub row_total : IsTotalOrder row_cmp
row_total = total_as (then_cmp (on form_of nat_cmp) (on words_of (slice_cmp name_cmp))) row_cmp by_words
    (then_total (on_total form_of nat_cmp_total) (on_total words_of (lists_total nat_list_cmp_total)))

pub then_first : (r s : Ordering) → ordering_then r s ≡ Equal → r ≡ Equal
then_first Less s e = e
then_first Equal s e = refl
then_first Greater s e = e

pub then_second : (r s : Ordering) → ordering_then r s ≡ Equal → s ≡ Equal
then_second Less s e = absurd cc
then_second Equal s e = e
then_second Greater s e = absurd cc

pub row_same : (x y : NamedRow) → row_cmp x y ≡ Equal → x ≡ y
row_same (row.Concept c a) (row.Concept d b) e =
    let f = name_same c d (then_first _ _ e) in
    let g = name_same a b (then_second (name_cmp c d) _ e) in
    λ j. row.Concept (f j) (g j)
row_same (row.Concept c a) (row.Role q x y) e = absurd cc
row_same (row.Role p a b) (row.Concept d x) e = absurd cc
row_same (row.Role p a b) (row.Role q x y) e =
    let rest = then_second (name_cmp p q) _ e in
    let f = name_same p q (then_first _ _ e) in
    let g = name_same a x (then_first _ _ rest) in
    let h = name_same b y (then_second (name_cmp a x) _ rest) in
    λ j. row.Role (f j) (g j) (h j)

-- the rows of what is asserted are one list
pub rows_once : (asserted xs ys : List NamedRow) → AreRowsOf asserted xs → AreRowsOf asserted ys → xs ≡ ys
rows_once asserted xs ys a b = same_rising row_cmp row_total row_same xs ys a.rising b.rising (λ r c. b.each r (a.only r c)) (λ r c. a.each r (b.only r c))

pub contains_cut : {X : Type 0} (xs : List X) (x z : X) → Contains (xs ++ x ∷ []) z → (z ≡ x) ⊎ Contains xs z
contains_cut [] x z c = elim (contains_cases x [] z c) [ inl e ↦ inl e | inr d ↦ inr d ]
contains_cut (y ∷ ys) x z c = elim (contains_cases y (ys ++ x ∷ []) z c) [
  | inl e ↦ inr (0, omega arith, sym e)
  | inr d ↦ elim (contains_cut ys x z d) [ inl e ↦ inl e | inr f ↦ inr (suc f.0, omega (arith, f.1), f.2) ]
]

pub none_rising : {X : Type 0} (cmp : X → X → Ordering) → IsStrictlySortedBy cmp []
unfolding IsStrictlySortedBy
none_rising cmp = tt

pub individual_through : (few many : List NamedRow) → ((r : NamedRow) → Contains few r → Contains many r) → (a : List ℕ) → IsIndividual few a → IsIndividual many a
individual_through few many into a (r, there, names) = (r, into r there, names)

-- ---- the ends of a row

names_both : (name : List ℕ) (turned : Bool) (a b : List ℕ) (rows : List NamedRow) → Contains rows (row_of name turned a b) → IsIndividual rows a × IsIndividual rows b
names_both name true a b rows c = ((row.Role name b a, c, inr refl), (row.Role name b a, c, inl refl))
names_both name false a b rows c = ((row.Role name a b, c, inl refl), (row.Role name a b, c, inr refl))

-- both ends of a row are individuals
pub ends_of_row : (o : Terminology) (rows : List NamedRow) (r : Role) (a b : List ℕ) → HasRow o rows r a b → IsIndividual rows a × IsIndividual rows b
ends_of_row o rows r a b h = names_both h.name r.inverse a b rows h.there

turned_back : (name : List ℕ) (turned : Bool) (a b : List ℕ) → row_of name turned a b ≡ row_of name (not turned) b a
turned_back name true a b = refl
turned_back name false a b = refl

-- a row is read both ways
pub back_row : (o : Terminology) (rows : List NamedRow) (r : Role) (a b : List ℕ) → HasRow o rows r a b → HasRow o rows (inverse r) b a
back_row o rows r a b h = record { name = h.name; named = h.named; there = subst (Contains rows) (turned_back h.name r.inverse a b) h.there }

-- ---- rows by numbers

-- sets keep rows in the order of rows by numbers
pub keys_by_numbers : (x y : Row) → key_order.it x y ≡ numbered_row_cmp x y
keys_by_numbers (numbered.Concept c a) (numbered.Concept d b) = refl
keys_by_numbers (numbered.Concept c a) (numbered.Role q x y) = refl
keys_by_numbers (numbered.Role p a b) (numbered.Concept d x) = refl
keys_by_numbers (numbered.Role p a b) (numbered.Role q x y) = refl

pub numbered_total : IsTotalOrder numbered_row_cmp
numbered_total = total_as key_order.it numbered_row_cmp keys_by_numbers total-law

-- rows by numbers that compare as equal are equal
pub numbered_same : (x y : Row) → numbered_row_cmp x y ≡ Equal → x ≡ y
numbered_same (numbered.Concept c a) (numbered.Concept d b) e =
    let f = nat_same c d (then_first _ _ e) in
    let g = nat_same a b (then_second (nat_cmp c d) _ e) in
    λ j. numbered.Concept (f j) (g j)
numbered_same (numbered.Concept c a) (numbered.Role q x y) e = absurd cc
numbered_same (numbered.Role p a b) (numbered.Concept d x) e = absurd cc
numbered_same (numbered.Role p a b) (numbered.Role q x y) e =
    let rest = then_second (nat_cmp p q) _ e in
    let f = nat_same p q (then_first _ _ e) in
    let g = nat_same a x (then_first _ _ rest) in
    let h = nat_same b y (then_second (nat_cmp a x) _ rest) in
    λ j. numbered.Role (f j) (g j) (h j)
