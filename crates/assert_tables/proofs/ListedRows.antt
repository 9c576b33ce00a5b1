-- Rows that are listed individual by individual.
use Rattle.std.proofs.Common.{◌≡◌, ◌≢◌, ℕ, ◌<◌, ◌⊎◌, ◌↔◌, inl, inr, List, [], ◌∷◌, ◌++◌, AllPairs, Contains, Option, Some, None, get_or, length, refl, sym, ◌∙◌, ap, subst, arith, append_assoc, length-append}
use Rattle.std.proofs.Math.ListN.{get_or-append}
use Rattle.std.proofs.Math.Seq.{get_or-append_seam}
use Rattle.std.proofs.lemmas.List.{append-nil}
use Rattle.std.proofs.lemmas.List.Elements.{Contains-append_left, Contains-push}
use Rattle.std.proofs.lemmas.List.Quantifiers.{all_pairs_push}
use Rattle.std.proofs.lemmas.Option.{slice_get-get_or}
use Rattle.assert_tables.specs.Naming.{AreRowsNaming}
use Rattle.assert_tables.specs.Rows.{IsNextIndividual, IsNumberAbove, first_of}
use Rattle.assert_tables.proofs.LeftLemmas.{above_on}
use Rattle.dl_base.specs.declared.row.Row.{Row}
use Rattle.dl_base.proofs.PlaceLemmas.{member_at}
use Rattle.dl_base.proofs.RowLemmas.{contains_cut}
use Rattle.assert_tables.specs.Listing.{IsListOf, ListsFrom, ListsRow}

-- ---- distinct rows

-- a row that isn't in a distinct list goes to its end
distinct_push : (list : List Row) (r : Row) → AllPairs (λ x y. x ≢ y) list → (Contains list r → ⊥) → AllPairs (λ x y. x ≢ y) (list ++ r ∷ [])
distinct_push list r distinct new = all_pairs_push (λ x y. x ≢ y) list r distinct
    (λ k d below e. new (subst (Contains list) e (member_at list k (get_or list k d) (slice_get-get_or list k d below))))

-- ---- the rows of one individual

-- the first ones of these rows were gone over, and of them those whose first individual this is were listed
pub record ListsSome (n : ℕ) (these left old list : List Row) : Type 0 where
  pub over : List Row
  pub parts : these ≡ over ++ left
  pub each : (r : Row) → Contains list r ↔ (((first_of r ≡ n) × Contains over r) ⊎ Contains old r)
  pub once : AllPairs (λ x y. x ≢ y) old → ((r : Row) → Contains old r → first_of r ≢ n) → AllPairs (λ x y. x ≢ y) list

-- no row of a distinct list stands twice
stands_once : (front back : List Row) (r : Row) → AllPairs (λ x y. x ≢ y) (front ++ r ∷ back) → Contains front r → ⊥
stands_once front back r distinct there =
    distinct there.0 (length front) r there.1 (omega (arith, length-append front (r ∷ back)))
    (get_or-append front (r ∷ back) r there.0 there.1 ∙ there.2 ∙ sym (get_or-append_seam front r back r))

module _ (n : ℕ) (these : List Row) (r : Row) (left old list new : List Row) (distinct : AllPairs (λ x y. x ≢ y) these) (far : ListsSome n these (r ∷ left) old list) where
  new_row : Contains far.over r → ⊥
  new_row = stands_once far.over left r (subst (AllPairs (λ x y. x ≢ y)) far.parts distinct)

  absent : first_of r ≡ n → ((x : Row) → Contains old x → first_of x ≢ n) → Contains list r → ⊥
  absent first none c = elim ((far.each r).0 c) [ inl h ↦ new_row h.1 | inr o ↦ none r o first ]

  one_further : these ≡ (far.over ++ r ∷ []) ++ left
  one_further = far.parts ∙ sym (append_assoc far.over (r ∷ []) left)

  still : (x : Row) → Contains list x → ((first_of x ≡ n) × Contains (far.over ++ r ∷ []) x) ⊎ Contains old x
  still x c = elim ((far.each x).0 c) [ inl h ↦ inl (h.0, Contains-append_left far.over (r ∷ []) x h.1) | inr o ↦ inr o ]

  listed : first_of r ≡ n → ListsSome n these left old (list ++ r ∷ [])
  listed first = record {
    over = far.over ++ r ∷ [];
    parts = one_further;
    each = λ x. (
      λ c. elim (contains_cut list r x c) [
        | inl e ↦ inl (ap first_of e ∙ first, subst (Contains (far.over ++ r ∷ [])) (sym e) (Contains-push far.over r))
        | inr d ↦ still x d
      ],
      λ either. elim either [
        | inl h ↦ elim (contains_cut far.over r x h.1) [
          | inl e ↦ subst (Contains (list ++ r ∷ [])) (sym e) (Contains-push list r)
          | inr d ↦ Contains-append_left list (r ∷ []) x ((far.each x).1 (inl (h.0, d)))
        ]
        | inr o ↦ Contains-append_left list (r ∷ []) x ((far.each x).1 (inr o))
      ],
    );
    once = λ distinct none. distinct_push list r (far.once distinct none) (absent first none);
  }

  passed : first_of r ≢ n → ListsSome n these left old list
  passed other = record {
    over = far.over ++ r ∷ [];
    parts = one_further;
    each = λ x. (
      λ c. still x c,
      λ either. elim either [
        | inl h ↦ elim (contains_cut far.over r x h.1) [ inl e ↦ absurd (other (ap first_of (sym e) ∙ h.0)) | inr d ↦ (far.each x).1 (inl (h.0, d)) ]
        | inr o ↦ (far.each x).1 (inr o)
      ],
    );
    once = far.once;
  }

  pub lists_more : ListsRow n r list new → ListsSome n these left old new
  lists_more (inl h) = subst (ListsSome n these left old) (sym h.1) (listed h.0)
  lists_more (inr h) = subst (ListsSome n these left old) (sym h.1) (passed h.0)

-- all rows that name the individual were gone over
pub lists_all : (n : ℕ) (rows these old list : List Row) → AreRowsNaming rows n these → ListsSome n these [] old list → ListsFrom n rows old list
lists_all n rows these old list naming far = record {
  each = λ x. (
    λ c. elim ((far.each x).0 c) [ inl h ↦ inl (h.0, ((naming.each x).0 (subst (λ (rs : List Row). Contains rs x) all h.1)).0) | inr o ↦ inr o ],
    λ either. (far.each x).1 (elim either [
      | inl h ↦ inl (h.0, subst (λ (rs : List Row). Contains rs x) (sym all) ((naming.each x).1 (h.1, inl (sym h.0))))
      | inr o ↦ inr o
    ]),
  );
  once = far.once;
}
  where
    all : far.over ≡ these
    all = sym (append-nil far.over) ∙ sym far.parts

-- ---- all individuals

-- the rows whose first individual isn't above that one were listed
pub record AreListedUpTo (rows : List Row) (after : Option ℕ) (list : List Row) : Type 0 where
  pub each : (r : Row) → Contains list r ↔ (Contains rows r × (IsNumberAbove after (first_of r) → ⊥))
  pub once : AllPairs (λ x y. x ≢ y) list

pub listed_none : (rows : List Row) → AreListedUpTo rows None []
listed_none rows = record {
  each = λ r. (λ c. absurd (omega (arith, c.1)), λ h. absurd (h.1 tt));
  once = λ i j d lt below. absurd (omega arith);
}

pub listed_more : (rows : List Row) (after : Option ℕ) (i : ℕ) (list new : List Row) → IsNextIndividual rows after (Some i) → ListsFrom i rows list new → AreListedUpTo rows after list → AreListedUpTo rows (Some i) new
listed_more rows after i list new next adds far = record {
  each = λ x. (into x, out x);
  once = adds.once far.once (λ x c e. ((far.each x).0 c).1 (subst (IsNumberAbove after) (sym e) next.0));
}
  where
    into : (x : Row) → Contains new x → Contains rows x × (IsNumberAbove (Some i) (first_of x) → ⊥)
    into x c = elim ((adds.each x).0 c) [
      | inl here ↦ (here.1, λ less. (let same = here.0 in omega (arith, same, less)))
      | inr before ↦ (let h = (far.each x).0 before in (h.0, λ less. h.1 (above_on after i (first_of x) next.0 less)))
    ]

    three : (n m : ℕ) → (n < m) ⊎ ((n ≡ m) ⊎ (m < n))
    three n m = grind arith

    out : (x : Row) → Contains rows x × (IsNumberAbove (Some i) (first_of x) → ⊥) → Contains new x
    out x (there, not_above) = elim (three (first_of x) i) [
      | inl less ↦ (adds.each x).1 (inr ((far.each x).1 (there, λ above. next.2 x (first_of x) there (inl refl) above less)))
      | inr rest ↦ elim rest [ inl same ↦ (adds.each x).1 (inl (same, there)) | inr more ↦ absurd (not_above more) ]
    ]

pub listed_all : (rows : List Row) (after : Option ℕ) (list : List Row) → IsNextIndividual rows after None → AreListedUpTo rows after list → IsListOf rows list
listed_all rows after list none far = record {
  once = far.once;
  each = λ x. (λ c. ((far.each x).0 c).0, λ there. (far.each x).1 (there, λ above. none x (first_of x) there (inl refl) above));
}
