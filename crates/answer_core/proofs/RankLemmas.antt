-- How many lists of elements a search may still come to.
use Rattle.std.proofs.Common.{◌≡◌, ℕ, suc, ◌<◌, ◌≤◌, ◌⊎◌, inl, inr, Bool, true, false, if◌then◌else◌, List, [], ◌∷◌, map, length, take, All, Contains, slice_get, Some, refl, sym, ap, ◌∙◌, subst, arith}
use Rattle.std.specs.Cmp.Lexicographic.{slice_cmp}
use Rattle.std.specs.List.{AllByRecursion, flat_map}
use Rattle.std.specs.Ordering.{is_lt}
use Rattle.std.specs.declared.cmp.Ordering.TheVariants.{Less}
use Rattle.std.proofs.lemmas.Cmp.{lists_total, tied_itself}
use Rattle.std.proofs.lemmas.List.Elements.{recursion_from_All}
use Rattle.std.proofs.lemmas.List.{length-map}
use Rattle.std.proofs.lemmas.Option.{get_or_from_slice_get, slice_get_within}
use Rattle.dl_base.specs.Tables.{TableRow, ConceptRow, RoleRow, turned_row, elem_cmp}
use Rattle.dl_base.specs.declared.element.Elem.{Elem}
use Rattle.dl_base.specs.declared.query.Term.{Term}
use Rattle.dl_base.proofs.ElemLemmas.{elem_total}
use Rattle.dl_base.proofs.RisingLemmas.{contains_cases, contains_first, contains_later}
use Rattle.query_shape.specs.Shape.{Layout, IsLayout, IsShapeMatch, HoldsAt, IsTermOf}
use Rattle.query_shape.specs.declared.layout.ShapeAtom.{ShapeAtom}
use Rattle.query_shape.specs.declared.layout.ShapeAtom.TheVariants as shape
use Rattle.join_ops.specs.Joins.{SearchPlace, Start, Behind, Past, End, IsBehindPlace}
use Rattle.dl_base.proofs.PlaceLemmas.{flat_there, map_contains, place_of}
use Rattle.join_ops.specs.Orders.{images_of}
use Rattle.join_ops.proofs.ImageLemmas.{image_at}
use Rattle.join_ops.proofs.Beyond.{take_less, take_rises}
use Rattle.join_ops.proofs.LeftLemmas.{less_of}

-- the elements of a row, and of all rows
abbrev row_elements : TableRow → List Elem
row_elements (ConceptRow c e) = e ∷ []
row_elements (RoleRow p e f) = e ∷ f ∷ []

abbrev pub elements : List TableRow → List Elem
elements table = flat_map row_elements table

-- the lists of these elements that are as long as the list of terms
abbrev pub tuples : List Elem → List Term → List (List Elem)
tuples es [] = [] ∷ []
tuples es (t ∷ ts) = flat_map (λ e. map (λ xs. e ∷ xs) (tuples es ts)) es

in_tuples : (es : List Elem) (ts : List Term) (xs : List Elem) → length xs ≡ length ts → AllByRecursion (Contains es) xs → Contains (tuples es ts) xs
in_tuples es [] [] long all = contains_first [] []
in_tuples es [] (x ∷ xs) long all = absurd (omega (arith, long))
in_tuples es (t ∷ ts) [] long all = absurd (omega (arith, long))
in_tuples es (t ∷ ts) (x ∷ xs) long all =
    flat_there (λ e. map (λ ys. e ∷ ys) (tuples es ts)) es x (x ∷ xs) all.0
    (map_contains (λ ys. x ∷ ys) (tuples es ts) xs (in_tuples es ts xs (omega (arith, long)) all.1))

turned_has : (table : List TableRow) (turned : Bool) (p : ℕ) (e f : Elem) → Contains table (turned_row turned p e f) → Contains (elements table) e × Contains (elements table) f
turned_has table false p e f c = (flat_there row_elements table (RoleRow p e f) e c (contains_first e (f ∷ [])), flat_there row_elements table (RoleRow p e f) f c (contains_later e (f ∷ []) f (contains_first f [])))
turned_has table true p e f c = (flat_there row_elements table (RoleRow p f e) e c (contains_later f (e ∷ []) e (contains_first e [])), flat_there row_elements table (RoleRow p f e) f c (contains_first f (e ∷ [])))

-- the image of a term that is in an atom is in the table
image_has : (table : List TableRow) (images : List Elem) (k : ℕ) (a : ShapeAtom) → IsTermOf k a → HoldsAt table images a → (e : Elem) × (slice_get images k ≡ Some e) × Contains (elements table) e
image_has table images k (shape.Concept c n) is (e, at, there) =
    (e, subst (λ (i : ℕ). slice_get images i ≡ Some e) (sym is) at, flat_there row_elements table (ConceptRow c e) e there (contains_first e []))
image_has table images k (shape.Role r n m) is (e, f, at_n, at_m, there) =
    let both = turned_has table r.inverse r.name e f there in
    elim is [
      | inl i ↦ (e, subst (λ (j : ℕ). slice_get images j ≡ Some e) (sym i) at_n, both.0)
      | inr i ↦ (f, subst (λ (j : ℕ). slice_get images j ≡ Some f) (sym i) at_m, both.1)
    ]

-- the elements by level of a match are one of the lists
pub elements_in : (table : List TableRow) (s : Layout) (levels : List ℕ) (by_level : List Elem) → IsLayout s → IsShapeMatch table s (images_of levels by_level) → length by_level ≡ length levels
    → ((level : ℕ) → level < length levels → Contains levels level) → Contains (tuples (elements table) s.terms) by_level
elements_in table s levels by_level layout is long covers = in_tuples (elements table) s.terms by_level whole (recursion_from_All (Contains (elements table)) by_level each)
  where
    whole : length by_level ≡ length s.terms
    whole = long ∙ sym (length-map levels _) ∙ is.count

    each : All (Contains (elements table)) by_level
    each k d below =
        let term = covers k (omega (arith, below, long)) in
        let on : slice_get levels term.0 ≡ Some k = place_of levels k term in
        let use_of = layout.used term.0 (omega (arith, slice_get_within levels term.0 k on, whole, long)) in
        let image = image_has table (images_of levels by_level) term.0 use_of.0 use_of.2 (is.atoms use_of.0 use_of.1) in
        let here : slice_get by_level k ≡ Some image.0 = sym (image_at levels by_level term.0 k on below) ∙ image.1 in
        subst (Contains (elements table)) (sym (get_or_from_slice_get by_level k image.0 d here)) image.2

-- how many of the list pass
abbrev pub passing : (List Elem → Bool) → List (List Elem) → ℕ
passing p [] = 0
passing p (x ∷ xs) = if p x then suc (passing p xs) else passing p xs

module _ (p q : List Elem → Bool) (into : (x : List Elem) → q x ≡ true → p x ≡ true) where
  passing_most : (xs : List (List Elem)) → passing q xs ≤ passing p xs
  passing_most [] = omega arith
  passing_most (x ∷ xs) = by (p x) (q x) (into x) (passing_most xs)
    where
      by : (a b : Bool) → (b ≡ true → a ≡ true) → passing q xs ≤ passing p xs
          → (if b then suc (passing q xs) else passing q xs) ≤ (if a then suc (passing p xs) else passing p xs)
      by true true h rest = omega (arith, rest)
      by true false h rest = omega (arith, rest)
      by false true h rest = absurd (let e = h refl in cc)
      by false false h rest = rest

  passing_fewer : (xs : List (List Elem)) (y : List Elem) → Contains xs y → p y ≡ true → q y ≡ false → passing q xs < passing p xs
  passing_fewer [] y c passes fails = absurd (omega (arith, c.1))
  passing_fewer (x ∷ xs) y c passes fails = by (λ d. passing_fewer xs y d passes fails) (contains_cases x xs y c)
    where
      here : y ≡ x → (if q x then suc (passing q xs) else passing q xs) < (if p x then suc (passing p xs) else passing p xs)
      here e =
          let most : passing q xs ≤ passing p xs = passing_most xs in
          let in_x : p x ≡ true = subst (λ (z : List Elem). p z ≡ true) e passes in
          let out_x : q x ≡ false = subst (λ (z : List Elem). q z ≡ false) e fails in
          rw (in_x, out_x) (omega (arith, most))

      later : (a b : Bool) → (b ≡ true → a ≡ true) → passing q xs < passing p xs
          → (if b then suc (passing q xs) else passing q xs) < (if a then suc (passing p xs) else passing p xs)
      later true true h rest = omega (arith, rest)
      later true false h rest = omega (arith, rest)
      later false true h rest = absurd (let e = h refl in cc)
      later false false h rest = rest

      by : (Contains xs y → passing q xs < passing p xs) → (y ≡ x) ⊎ Contains xs y → passing q (x ∷ xs) < passing p (x ∷ xs)
      by rest (inl e) = here e
      by rest (inr d) = later (p x) (q x) (into x) (rest d)

-- whether the images are behind the place
abbrev pub comes_behind : SearchPlace → List Elem → Bool
comes_behind Start images = true
comes_behind (Behind last) images = is_lt (slice_cmp elem_cmp last images)
comes_behind (Past n last) images = is_lt (slice_cmp elem_cmp (take n last) (take n images))
comes_behind End images = false

-- how many of these lists are behind the place
abbrev pub rank : List (List Elem) → SearchPlace → ℕ
rank all place = passing (comes_behind place) all

behind_is : (place : SearchPlace) (images : List Elem) → IsBehindPlace place images → comes_behind place images ≡ true
behind_is Start images h = refl
behind_is (Behind last) images h = ap is_lt h
behind_is (Past n last) images h = ap is_lt h
behind_is End images h = absurd h

behind_more : (place : SearchPlace) (images others : List Elem) → IsBehindPlace place images → comes_behind (Behind images) others ≡ true → comes_behind place others ≡ true
behind_more Start images others h more = refl
behind_more (Behind last) images others h more = ap is_lt ((lists_total elem_total).trans last images others h (less_of (slice_cmp elem_cmp images others) more))
behind_more (Past n last) images others h more = elim (take_rises n images others (less_of (slice_cmp elem_cmp images others) more)) [
  | inl same ↦ ap is_lt (subst (λ (l : List Elem). slice_cmp elem_cmp (take n last) l ≡ Less) same h)
  | inr less ↦ ap is_lt ((lists_total elem_total).trans (take n last) (take n images) (take n others) h less)
]
behind_more End images others h more = absurd h

-- behind the next match there are fewer
pub rank_falls : (all : List (List Elem)) (place new : SearchPlace) (images : List Elem) → IsBehindPlace place images → new ≡ Behind images → Contains all images → rank all new < rank all place
rank_falls all place new images behind stands there =
    subst (λ (at : SearchPlace). rank all at < rank all place) (sym stands)
    (passing_fewer (comes_behind place) (comes_behind (Behind images)) (λ others. behind_more place images others behind) all images there (behind_is place images behind)
    (ap is_lt (tied_itself (lists_total elem_total) images)))

-- behind all that have so many first images there are no more
pub rank_past : (all : List (List Elem)) (n : ℕ) (images : List Elem) → rank all (Past n images) ≤ rank all (Behind images)
rank_past all n images = passing_most (comes_behind (Behind images)) (comes_behind (Past n images)) (λ others past. ap is_lt (take_less n images others (less_of _ past))) all
