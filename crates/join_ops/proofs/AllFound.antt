-- The list of all matches in a table.
use Rattle.std.proofs.Common.{◌≡◌, ◌≢◌, ◌↔◌, ◌<◌, ℕ, zero, suc, ◌⊎◌, inl, inr, List, [], ◌∷◌, Option, Some, length, get_or, slice_get, Contains, AllPairs, refl, sym, ap, ◌∙◌, subst, arith}
use Rattle.std.specs.Cmp.Lexicographic.{slice_cmp}
use Rattle.std.specs.List.Sorted.{IsStrictlySortedBy}
use Rattle.std.specs.declared.cmp.Ordering.TheVariants.{Less, Equal}
use Rattle.std.proofs.lemmas.Option.{slice_get-get_or, slice_get_within}
use Rattle.dl_base.specs.Tables.{TableRow, elem_cmp}
use Rattle.dl_base.specs.declared.element.Elem.{Elem}
use Rattle.dl_base.proofs.ElemLemmas.{elem_same}
use Rattle.dl_base.proofs.RisingLemmas.{contains_cases, contains_first, contains_later, all_contains, slice_same, placed, placed_rises, placed_adds}
use Rattle.dl_base.proofs.RowLemmas.{none_rising}
use Rattle.query_shape.specs.Shape.{HoldsAt, IsTermOf}
use Rattle.query_shape.specs.declared.layout.ShapeAtom.{ShapeAtom}
use Rattle.query_shape.specs.declared.layout.ShapeAtom.TheVariants as shape
use Rattle.join_ops.specs.Joins.{Start, IsFound, AreLeft}
use Rattle.join_ops.specs.Levels.{AreOnLevels}
use Rattle.join_ops.specs.declared.condition.Condition.{Condition}
use Rattle.join_ops.specs.declared.condition.Condition.TheVariants as condition
use Rattle.join_ops.proofs.Rooms.{elems, concept_elem, edge_elems}
use Rattle.join_ops.proofs.LeftLemmas.{images_total, never_below}
use Rattle.query_shape.proofs.MatchList.{Decided}
use Rattle.join_ops.proofs.Decisions.{is_found}

-- the strictly rising list of these
record Lists (P : List Elem → Type 0) (all : List (List Elem)) : Type 0 where
  rising : IsStrictlySortedBy (slice_cmp elem_cmp) all
  each : (x : List Elem) → Contains all x ↔ P x

images_same : (x y : List Elem) → slice_cmp elem_cmp x y ≡ Equal → x ≡ y
images_same x y e = slice_same elem_cmp elem_same x y e

one_more : (P : List Elem → Type 0) (x : List Elem) (all : List (List Elem)) → Lists P all → Lists (λ y. (y ≡ x) ⊎ P y) (placed (slice_cmp elem_cmp) images_total images_same x all)
one_more P x all are =
    let adds = placed_adds (slice_cmp elem_cmp) images_total images_same x all in
    record {
      rising = placed_rises (slice_cmp elem_cmp) images_total images_same x all are.rising;
      each = λ y. (
        (λ c. elim (adds.each y c) [ inl e ↦ inl e | inr d ↦ inr ((are.each y).0 d) ]),
        (λ h. elim h [ inl e ↦ subst (Contains (placed (slice_cmp elem_cmp) images_total images_same x all)) (sym e) adds.there | inr p ↦ adds.stays y ((are.each y).1 p) ]),
      );
    }

same_lists : (P Q : List Elem → Type 0) (all : List (List Elem)) → ((x : List Elem) → P x → Q x) → ((x : List Elem) → Q x → P x) → Lists P all → Lists Q all
same_lists P Q all into back are = record {
  rising = are.rising;
  each = λ x. ((λ c. into x ((are.each x).0 c)), (λ q. (are.each x).1 (back x q)));
}

-- with each of these behind the element
with_first : (P : List Elem → Type 0) (e : Elem) (more all : List (List Elem)) → Lists P all
    → (whole : List (List Elem)) × Lists (λ y. ((xs : List Elem) × (y ≡ e ∷ xs) × Contains more xs) ⊎ P y) whole
with_first P e [] all are = (all, same_lists P _ all (λ x p. inr p) (λ x h. elim h [ inl k ↦ absurd (let c = k.2 in omega (arith, c.1)) | inr p ↦ p ]) are)
with_first P e (m ∷ more) all are =
    let rest = with_first P e more all are in
    let step = one_more (λ y. ((xs : List Elem) × (y ≡ e ∷ xs) × Contains more xs) ⊎ P y) (e ∷ m) rest.0 rest.1 in
    (placed (slice_cmp elem_cmp) images_total images_same (e ∷ m) rest.0, same_lists _ _ _ into back step)
  where
    into : (x : List Elem) → (x ≡ e ∷ m) ⊎ (((xs : List Elem) × (x ≡ e ∷ xs) × Contains more xs) ⊎ P x) → ((xs : List Elem) × (x ≡ e ∷ xs) × Contains (m ∷ more) xs) ⊎ P x
    into x (inl is) = inl (m, is, contains_first m more)
    into x (inr (inl k)) = inl (k.0, k.1, contains_later m more k.0 k.2)
    into x (inr (inr p)) = inr p

    back : (x : List Elem) → ((xs : List Elem) × (x ≡ e ∷ xs) × Contains (m ∷ more) xs) ⊎ P x → (x ≡ e ∷ m) ⊎ (((xs : List Elem) × (x ≡ e ∷ xs) × Contains more xs) ⊎ P x)
    back x (inr p) = inr (inr p)
    back x (inl k) = by (contains_cases m more k.0 k.2)
      where
        by : (k.0 ≡ m) ⊎ Contains more k.0 → (x ≡ e ∷ m) ⊎ (((xs : List Elem) × (x ≡ e ∷ xs) × Contains more xs) ⊎ P x)
        by (inl same) = inl (k.1 ∙ ap (λ (l : List Elem). e ∷ l) same)
        by (inr c) = inr (inl (k.0, k.1, c))

abbrev Within : List Elem → List Elem → Type 0
Within known [] = Unit {0}
Within known (x ∷ xs) = Contains known x × Within known xs

abbrev OfLength : List Elem → ℕ → (List Elem → Type 0) → List Elem → Type 0
OfLength known n P x = (length x ≡ n) × Within known x × P x

-- beginning with one of these
abbrev Begins : List Elem → (Elem → List Elem → Type 0) → List Elem → Type 0
Begins firsts Rest [] = ⊥
Begins firsts Rest (x ∷ xs) = Contains firsts x × Rest x xs

all_begun : (firsts : List Elem) (Rest : Elem → List Elem → Type 0) → ((e : Elem) → (all : List (List Elem)) × Lists (Rest e) all) → (all : List (List Elem)) × Lists (Begins firsts Rest) all
all_begun [] Rest lists = ([], record { rising = none_rising (slice_cmp elem_cmp); each = λ x. ((λ c. absurd (omega arith)), (λ h. absurd (none x h))) })
  where
    none : (x : List Elem) → Begins [] Rest x → ⊥
    none [] h = h
    none (x ∷ xs) h = let c = h.0 in omega (arith, c.1)
all_begun (e ∷ firsts) Rest lists =
    let others = all_begun firsts Rest lists in
    let first = lists e in
    let both = with_first (Begins firsts Rest) e first.0 others.0 others.1 in
    (both.0, same_lists _ _ both.0 (into first.0 (λ xs c. (first.1.each xs).0 c)) (back first.0 (λ xs r. (first.1.each xs).1 r)) both.1)
  where
    into : (more : List (List Elem)) → ((xs : List Elem) → Contains more xs → Rest e xs) → (x : List Elem) → ((xs : List Elem) × (x ≡ e ∷ xs) × Contains more xs) ⊎ Begins firsts Rest x → Begins (e ∷ firsts) Rest x
    into more are x (inl k) = subst (Begins (e ∷ firsts) Rest) (sym k.1) (contains_first e firsts, are k.0 k.2)
    into more are [] (inr h) = h
    into more are (x ∷ xs) (inr h) = (contains_later e firsts x h.0, h.1)

    back : (more : List (List Elem)) → ((xs : List Elem) → Rest e xs → Contains more xs) → (x : List Elem) → Begins (e ∷ firsts) Rest x → ((xs : List Elem) × (x ≡ e ∷ xs) × Contains more xs) ⊎ Begins firsts Rest x
    back more are [] h = absurd h
    back more are (x ∷ xs) h = by (contains_cases e firsts x h.0)
      where
        by : (x ≡ e) ⊎ Contains firsts x → ((ys : List Elem) × (x ∷ xs ≡ e ∷ ys) × Contains more ys) ⊎ (Contains firsts x × Rest x xs)
        by (inl same) = inl (xs, ap (λ (z : Elem). z ∷ xs) same, are xs (subst (λ (z : Elem). Rest z xs) same h.1))
        by (inr c) = inr (c, h.1)

-- all lists of so many known elements that pass
all_of : (known : List Elem) (n : ℕ) (P : List Elem → Type 0) → ((x : List Elem) → Decided (P x)) → (all : List (List Elem)) × Lists (OfLength known n P) all
all_of known zero P decide = by (decide [])
  where
    by : Decided (P []) → (all : List (List Elem)) × Lists (OfLength known 0 P) all
    by (inl p) = (
      ([] ∷ []),
      record {
        rising = (placed_rises (slice_cmp elem_cmp) images_total images_same [] [] (none_rising (slice_cmp elem_cmp)));
        each = λ x. ((λ c. elim (contains_cases [] [] x c) [ inl e ↦ subst (OfLength known 0 P) (sym e) (refl, tt, p) | inr d ↦ absurd (omega (arith, d.1)) ]), (λ h. only x h));
      },
    )
      where
        only : (x : List Elem) → OfLength known 0 P x → Contains ([] ∷ []) x
        only [] h = contains_first [] []
        only (x ∷ xs) h = absurd (let q = h.0 in omega arith)
    by (inr never) = ([], record { rising = none_rising (slice_cmp elem_cmp); each = λ x. ((λ c. absurd (omega arith)), (λ h. absurd (none x h))) })
      where
        none : (x : List Elem) → OfLength known 0 P x → ⊥
        none [] h = never h.2
        none (x ∷ xs) h = let q = h.0 in omega arith
all_of known (suc n) P decide =
    let begun = all_begun known (λ e. OfLength known n (λ xs. P (e ∷ xs))) (λ e. all_of known n (λ xs. P (e ∷ xs)) (λ xs. decide (e ∷ xs))) in
    (begun.0, same_lists _ _ begun.0 into back begun.1)
  where
    into : (x : List Elem) → Begins known (λ e. OfLength known n (λ xs. P (e ∷ xs))) x → OfLength known (suc n) P x
    into [] h = absurd h
    into (x ∷ xs) h = (ap suc h.1.0, (h.0, h.1.1), h.1.2)

    back : (x : List Elem) → OfLength known (suc n) P x → Begins known (λ e. OfLength known n (λ xs. P (e ∷ xs))) x
    back [] h = absurd (let q = h.0 in omega arith)
    back (x ∷ xs) h = let q = h.0 in (h.1.0, (omega arith, h.1.1, h.2))

-- the images of a match are elements of rows
image_known : (table : List TableRow) (images : List Elem) (k : ℕ) (e : Elem) (a : ShapeAtom) → IsTermOf k a → HoldsAt table images a → slice_get images k ≡ Some e → Contains (elems table) e
image_known table images k e (shape.Concept c n) is h at =
    let same : e ≡ h.0 = (let there = h.1 in cc) in
    subst (Contains (elems table)) (sym same) (concept_elem table c h.0 h.2)
image_known table images k e (shape.Role r n m) (inl is) h at =
    let same : e ≡ h.0 = (let there = h.2 in cc) in
    subst (Contains (elems table)) (sym same) (edge_elems table r h.0 h.1 h.4).0
image_known table images k e (shape.Role r n m) (inr is) h at =
    let same : e ≡ h.1 = (let there = h.3 in cc) in
    subst (Contains (elems table)) (sym same) (edge_elems table r h.0 h.1 h.4).1

all_within : (known images : List Elem) → ((k : ℕ) (e : Elem) → slice_get images k ≡ Some e → Contains known e) → Within known images
all_within known [] each = tt
all_within known (x ∷ xs) each = (each 0 x refl, all_within known xs (λ k e at. each (suc k) e at))

read_again : (xs : List (List Elem)) (k : ℕ) (d : List Elem) → k < length xs → get_or xs k (get_or xs k d) ≡ get_or xs k d
read_again xs k d below =
    let once = slice_get-get_or xs k d below in
    let again = slice_get-get_or xs k (get_or xs k d) below in
    cc

all_apart : (all : List (List Elem)) → IsStrictlySortedBy (slice_cmp elem_cmp) all → AllPairs (λ x y. x ≢ y) all
unfolding IsStrictlySortedBy
all_apart [] rising = λ i j d less below. absurd (omega arith)
all_apart (x ∷ xs) rising = by (all_apart xs rising.1)
  where
    by : AllPairs (λ y z. y ≢ z) xs → AllPairs (λ y z. y ≢ z) (x ∷ xs)
    by rest zero zero d less below = absurd (omega arith)
    by rest zero (suc j) d less below = λ same.
        let there : Contains xs (get_or xs j d) = (j, omega arith, read_again xs j d (omega arith)) in
        let above : slice_cmp elem_cmp x (get_or xs j d) ≡ Less = all_contains _ xs (get_or xs j d) rising.0 there in
        never_below x (subst (λ (l : List Elem). slice_cmp elem_cmp x l ≡ Less) (sym same) above)
    by rest (suc i) zero d less below = absurd (omega arith)
    by rest (suc i) (suc j) d less below = rest i j d (omega arith) (omega arith)

found_known : (table : List TableRow) (conditions : List Condition) (fixed : List (Option ℕ)) → AreOnLevels (length fixed) conditions → (x : List Elem) → IsFound table conditions fixed x
    → OfLength (elems table) (length fixed) (IsFound table conditions fixed) x
found_known table conditions fixed on x found = (found.count, all_within (elems table) x image, found)
  where
    image : (k : ℕ) (e : Elem) → slice_get x k ≡ Some e → Contains (elems table) e
    image k e at =
        let within = slice_get_within x k e at in
        let used = on.used k (omega (arith, within, found.count)) in
        image_known table x k e used.0 used.2 (found.met (condition.Atom used.0) used.1) at

all_found : (table : List TableRow) (conditions : List Condition) (fixed : List (Option ℕ)) → AreOnLevels (length fixed) conditions → (all : List (List Elem)) × Lists (IsFound table conditions fixed) all
all_found table conditions fixed on =
    let all = all_of (elems table) (length fixed) (IsFound table conditions fixed) (λ x. is_found table conditions fixed x) in
    (all.0, same_lists _ _ all.0 (λ x h. h.2) (λ x found. found_known table conditions fixed on x found) all.1)

-- before a search gives the first match it has all of them left
pub new_left : (table : List TableRow) (conditions : List Condition) (fixed own : List (Option ℕ)) → AreOnLevels (length fixed) conditions → own ≡ fixed
    → (left : List (List Elem)) × AreLeft table (record { conditions = conditions; fixed = own; place = Start }) left
    × AllPairs (λ x y. x ≢ y) left × ((elements : List Elem) → Contains left elements ↔ IsFound table conditions fixed elements)
new_left table conditions fixed own on same =
    let all = all_found table conditions fixed on in
    let left : AreLeft table (record { conditions = conditions; fixed = fixed; place = Start }) all.0 = record {
      last = tt;
      rising = all.1.rising;
      each = λ elements. ((λ c. ((all.1.each elements).0 c, tt)), (λ h. (all.1.each elements).1 h.0));
    } in (
      all.0,
      subst (λ (l : List (Option ℕ)). AreLeft table (record { conditions = conditions; fixed = l; place = Start }) all.0) (sym same) left,
      all_apart all.0 all.1.rising,
      all.1.each,
    )
