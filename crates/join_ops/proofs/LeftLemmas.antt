-- What a search has left once it went on.
use Rattle.std.proofs.Common.{◌≡◌, ℕ, Bool, true, false, if◌then◌else◌, ◌⊎◌, inl, inr, List, [], ◌∷◌, Option, Contains, take, refl, sym, ap, ◌∙◌, subst, arith}
use Rattle.std.specs.Cmp.{IsTotalOrder}
use Rattle.std.specs.Cmp.Lexicographic.{slice_cmp}
use Rattle.std.specs.List.{filter}
use Rattle.std.specs.List.Sorted.{IsStrictlySortedBy}
use Rattle.std.specs.Ordering.{is_lt}
use Rattle.std.specs.declared.cmp.Ordering.{Ordering}
use Rattle.std.specs.declared.cmp.Ordering.TheVariants.{Less, Equal, Greater}
use Rattle.std.proofs.lemmas.Cmp.{lists_total, tied_itself}
use Rattle.std.proofs.lemmas.List.Kept.{IsStrictlySortedBy-filter}
use Rattle.dl_base.specs.Tables.{TableRow, elem_cmp}
use Rattle.dl_base.specs.declared.element.Elem.{Elem}
use Rattle.dl_base.proofs.ElemLemmas.{elem_total}
use Rattle.dl_base.proofs.PlaceLemmas.{kept_in, kept_is}
use Rattle.dl_base.proofs.RisingLemmas.{contains_cases, contains_first, contains_later, all_contains}
use Rattle.dl_base.proofs.RowLemmas.{none_rising}
use Rattle.join_ops.specs.Joins.{SearchPlace, Start, Behind, Past, End, IsFound, IsBehindPlace, IsLast, AreLeft, StandsBehindFirst, Advances, SkipsAlike}
use Rattle.join_ops.specs.Levels.{Finds, IsLeast, search_place}
use Rattle.join_ops.specs.declared.condition.Condition.{Condition}
use Rattle.join_ops.specs.declared.search.At.{At}
use Rattle.join_ops.specs.declared.search.At.TheVariants as at
use Rattle.join_ops.proofs.Beyond.{take_rises, take_less}

pub images_total : IsTotalOrder (slice_cmp elem_cmp)
images_total = lists_total elem_total

pub never_below : (x : List Elem) → slice_cmp elem_cmp x x ≡ Less → ⊥
never_below x less = let self : slice_cmp elem_cmp x x ≡ Equal = tied_itself images_total x in let e : Less ≡ Equal = sym less ∙ self in cc

less_through : (x y z : List Elem) → slice_cmp elem_cmp x y ≡ Less → slice_cmp elem_cmp y z ≡ Less → slice_cmp elem_cmp x z ≡ Less
less_through x y z e f = images_total.trans x y z e f

behind_through : (place : SearchPlace) (x y : List Elem) → IsBehindPlace place x → slice_cmp elem_cmp x y ≡ Less → IsBehindPlace place y
behind_through Start x y h less = tt
behind_through (Behind last) x y h less = less_through last x y h less
behind_through (Past n last) x y h less = elim (take_rises n x y less) [
  | inl same ↦ subst (λ (l : List Elem). slice_cmp elem_cmp (take n last) l ≡ Less) same h
  | inr more ↦ less_through (take n last) (take n x) (take n y) h more
]
behind_through End x y h less = absurd h

module _ (table : List TableRow) (conditions : List Condition) (fixed : List (Option ℕ)) (place : SearchPlace) where
  none_left : (left : List (List Elem)) → AreLeft table (record { conditions = conditions; fixed = fixed; place = place }) left
      → ((others : List Elem) → IsFound table conditions fixed others → IsBehindPlace place others → ⊥)
      → (left ≡ []) × AreLeft table (record { conditions = conditions; fixed = fixed; place = End }) []
  none_left [] are none = (
    refl,
    record {
      last = tt;
      rising = none_rising (slice_cmp elem_cmp);
      each = λ images. ((λ c. absurd (omega arith)), (λ h. absurd h.1));
    },
  )
  none_left (x ∷ xs) are none = let h = (are.each x).0 (contains_first x xs) in absurd (none x h.0 h.1)

  first_is : (x images : List Elem) (xs : List (List Elem)) → AreLeft table (record { conditions = conditions; fixed = fixed; place = place }) (x ∷ xs)
      → IsLeast table conditions fixed place images → x ≡ images
  unfolding IsStrictlySortedBy
  first_is x images xs are least =
      let there = (are.each x).0 (contains_first x xs) in
      by (contains_cases x xs images ((are.each images).1 (least.found, least.behind))) (least.least x there.0 there.1)
    where
      by : (images ≡ x) ⊎ Contains xs images → (images ≡ x) ⊎ (slice_cmp elem_cmp images x ≡ Less) → x ≡ images
      by (inl e) other = sym e
      by (inr c) (inl e) = sym e
      by (inr c) (inr less) =
          let above : slice_cmp elem_cmp x images ≡ Less = all_contains _ xs images are.rising.0 c in
          absurd (never_below x (less_through x images x above less))

  others_left : (x : List Elem) (xs : List (List Elem)) → AreLeft table (record { conditions = conditions; fixed = fixed; place = place }) (x ∷ xs)
      → AreLeft table (record { conditions = conditions; fixed = fixed; place = Behind x }) xs
  unfolding IsStrictlySortedBy
  others_left x xs are =
      let there = (are.each x).0 (contains_first x xs) in
      record {
        last = there.0;
        rising = are.rising.1;
        each = λ images. (
          (λ c. (((are.each images).0 (contains_later x xs images c)).0, all_contains _ xs images are.rising.0 c)),
          (λ h. in_others images h.1 (contains_cases x xs images ((are.each images).1 (h.0, behind_through place x images there.1 h.1)))),
        );
      }
    where
      in_others : (images : List Elem) → slice_cmp elem_cmp x images ≡ Less → (images ≡ x) ⊎ Contains xs images → Contains xs images
      in_others images less (inl e) = absurd (never_below x (subst (λ (l : List Elem). slice_cmp elem_cmp x l ≡ Less) e less))
      in_others images less (inr c) = c

  next_left : (left : List (List Elem)) (images : List Elem) → AreLeft table (record { conditions = conditions; fixed = fixed; place = place }) left
      → IsLeast table conditions fixed place images → StandsBehindFirst table left (record { conditions = conditions; fixed = fixed; place = Behind images })
  next_left [] images are least = absurd (let c = (are.each images).1 (least.found, least.behind) in omega (arith, c.1))
  next_left (x ∷ xs) images are least =
      let same = first_is x images xs are least in
      record {
        images = images;
        others = xs;
        first = ap (λ (l : List Elem). l ∷ xs) same;
        stands = refl;
        goes_on = subst (λ (l : List Elem). AreLeft table (record { conditions = conditions; fixed = fixed; place = Behind l }) xs) same (others_left x xs are);
      }

  found_left : (left : List (List Elem)) (found : Bool) (images : List Elem) (after : At) → AreLeft table (record { conditions = conditions; fixed = fixed; place = place }) left
      → Finds table conditions fixed place found images → ((found ≡ true) × (after ≡ at.Behind)) ⊎ ((found ≡ false) × (after ≡ at.End))
      → Advances table left found (record { conditions = conditions; fixed = fixed; place = search_place after images })
  found_left left true images after are finds (inl is) =
      subst (λ (a : At). StandsBehindFirst table left (record { conditions = conditions; fixed = fixed; place = search_place a images })) (sym is.1) (next_left left images are finds)
  found_left left true images after are finds (inr is) = absurd (let e = is.0 in cc)
  found_left left false images after are finds (inl is) = absurd (let e = is.0 in cc)
  found_left left false images after are finds (inr is) =
      let none = none_left left are finds in
      (none.0, subst (λ (a : At). AreLeft table (record { conditions = conditions; fixed = fixed; place = search_place a images }) []) (sym is.1) none.1)

-- what an answer of the search says of what is left
pub advances : (table : List TableRow) (conditions : List Condition) (fixed : List (Option ℕ)) (before after : At) (old new : List Elem) (left : List (List Elem)) (found : Bool)
    → AreLeft table (record { conditions = conditions; fixed = fixed; place = search_place before old }) left
    → (IsLast table conditions fixed (search_place before old) → Finds table conditions fixed (search_place before old) found new)
    → ((found ≡ true) × (after ≡ at.Behind)) ⊎ ((found ≡ false) × (after ≡ at.End))
    → Advances table left found (record { conditions = conditions; fixed = fixed; place = search_place after new })
advances table conditions fixed before after old new left found are finds is = found_left table conditions fixed (search_place before old) left found new after are (finds are.last) is

pub less_of : (r : Ordering) → is_lt r ≡ true → r ≡ Less
less_of Less e = refl
less_of Equal e = absurd cc
less_of Greater e = absurd cc

-- what is left behind all that have so many first images as the last match
pub past_left : (table : List TableRow) (conditions : List Condition) (fixed : List (Option ℕ)) (n : ℕ) (x : List Elem) (left : List (List Elem))
    → AreLeft table (record { conditions = conditions; fixed = fixed; place = Behind x }) left
    → SkipsAlike table left n x (record { conditions = conditions; fixed = fixed; place = Past n x })
past_left table conditions fixed n x left are = record {
  others = filter above left;
  stands = refl;
  goes_on = record {
    last = are.last;
    rising = IsStrictlySortedBy-filter (slice_cmp elem_cmp) above left are.rising;
    each = λ images. (
      (λ c. let k = kept_is above left images c in (((are.each images).0 k.0).0, less_of _ k.1)),
      (λ h. kept_in above left images ((are.each images).1 (h.0, take_less n x images h.1)) (ap is_lt h.1)),
    );
  };
  each = λ images. (
    (λ c. let k = kept_is above left images c in (k.0, λ same. apart images (less_of _ k.1) same)),
    (λ h. kept_in above left images h.0 (elim (take_rises n x images ((are.each images).0 h.0).1) [ inl same ↦ absurd (h.1 (sym same)) | inr less ↦ ap is_lt less ])),
  );
}
  where
    above : List Elem → Bool
    above images = is_lt (slice_cmp elem_cmp (take n x) (take n images))

    apart : (images : List Elem) → slice_cmp elem_cmp (take n x) (take n images) ≡ Less → take n images ≡ take n x → ⊥
    apart images less same = never_below (take n x) (subst (λ (l : List Elem). slice_cmp elem_cmp (take n x) l ≡ Less) same less)

stood_at : (at : At) (images last : List Elem) → search_place at images ≡ Behind last → images ≡ last
stood_at at.Start images last stands = absurd cc
stood_at at.Behind images last stands = cc
stood_at (at.Past n) images last stands = absurd cc
stood_at at.End images last stands = absurd cc

pub skips_alike : (table : List TableRow) (conditions : List Condition) (fixed : List (Option ℕ)) (at : At) (n : ℕ) (images last : List Elem) (left : List (List Elem))
    → AreLeft table (record { conditions = conditions; fixed = fixed; place = search_place at images }) left → search_place at images ≡ Behind last
    → SkipsAlike table left n last (record { conditions = conditions; fixed = fixed; place = Past n images })
skips_alike table conditions fixed at n images last left are stands =
    subst (λ (l : List Elem). SkipsAlike table left n last (record { conditions = conditions; fixed = fixed; place = Past n l })) (sym (stood_at at images last stands))
    (past_left table conditions fixed n last left (subst (λ (p : SearchPlace). AreLeft table (record { conditions = conditions; fixed = fixed; place = p }) left) stands are))
