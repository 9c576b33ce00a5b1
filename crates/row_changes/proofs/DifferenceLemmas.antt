-- Rows that come and go.
use Rattle.std.proofs.Common.{◌≡◌, ◌↔◌, ◌⊎◌, ◌<◌, ◌≤◌, ◌+◌, inl, inr, ℕ, List, [], ◌∷◌, ◌++◌, Contains, get_or, length, take, sym, ◌∙◌, ap, subst, arith}
use Rattle.std.proofs.lemmas.List.{take_all, take_more}
use Rattle.std.proofs.lemmas.List.Elements.{Contains-append_left, Contains-push}
use Rattle.assert_tables.specs.Rows.{AreRisingRows, Gains, Loses}
use Rattle.assert_tables.specs.Listing.{IsListOf}
use Rattle.dl_base.specs.Rows.{numbered_row_cmp}
use Rattle.dl_base.specs.declared.row.Row.{Row}
use Rattle.dl_base.proofs.RisingLemmas.{same_rising}
use Rattle.dl_base.proofs.RowLemmas.{contains_cut, numbered_same, numbered_total}
use Rattle.row_changes.specs.Difference.{AddsEach, IsDifference, RemovesEach}
use Rattle.row_changes.specs.declared.difference.Difference.{Difference}
use Rattle.row_changes.proofs.Members.{member_or_not, same_or_not}

same_row : (r q : Row) → (r ≡ q) ⊎ (r ≡ q → ⊥)
same_row = same_or_not numbered_row_cmp numbered_total numbered_same

has_row : (rows : List Row) (r : Row) → Contains rows r ⊎ (Contains rows r → ⊥)
has_row = member_or_not numbered_row_cmp numbered_total numbered_same

none_here : (r : Row) → Contains [] r → ⊥
none_here r c = omega (arith, c.1)

-- rows that stay the same
same_difference : (first old new : List Row) (d : Difference) → ((r : Row) → Contains new r ↔ Contains old r) → IsDifference first old d → IsDifference first new d
same_difference first old new d same is = record {
  come = λ r. (λ c. ((same r).1 ((is.come r).0 c).0, ((is.come r).0 c).1), λ both. (is.come r).1 ((same r).0 both.0, both.1));
  gone = λ r. (λ c. (((is.gone r).0 c).0, λ n. ((is.gone r).0 c).1 ((same r).0 n)), λ both. (is.gone r).1 (both.0, λ o. both.1 ((same r).1 o)));
}

module _ (first old new come gone : List Row) (row : Row) (is : IsDifference first old (record { come = come; gone = gone })) where
  -- ---- a row that is added

  module _ (gains : Gains row old new) where
    pub added_again : Contains old row → IsDifference first new (record { come = come; gone = gone })
    added_again there = same_difference first old new (record { come = come; gone = gone })
        (λ r. (λ n. elim ((gains.each r).0 n) [ inl e ↦ subst (Contains old) (sym e) there | inr o ↦ o ], λ o. (gains.each r).1 (inr o))) is

    module _ (not_old : Contains old row → ⊥) (still : List Row) (loses : Loses row gone still) where
      gone_before : (r : Row) → Contains still r ↔ (Contains first r × (Contains new r → ⊥))
      gone_before r = (
        λ c. (let l = (loses.each r).0 c in (((is.gone r).0 l.1).0, λ n. elim ((gains.each r).0 n) [ inl e ↦ l.0 e | inr o ↦ ((is.gone r).0 l.1).1 o ])),
        λ both. (loses.each r).1 (λ e. both.1 ((gains.each r).1 (inl e)), (is.gone r).1 (both.0, λ o. both.1 ((gains.each r).1 (inr o)))),
      )

      -- it had gone
      pub comes_back : Contains gone row → IsDifference first new (record { come = come; gone = still })
      comes_back went = record {
        come = λ r. (
          λ c. ((gains.each r).1 (inr ((is.come r).0 c).0), ((is.come r).0 c).1),
          λ both. elim ((gains.each r).0 both.0) [
            | inl e ↦ absurd (both.1 (subst (Contains first) (sym e) ((is.gone row).0 went).0))
            | inr o ↦ (is.come r).1 (o, both.1)
          ],
        );
        gone = gone_before;
      }

      -- it is new
      pub comes_new : (Contains gone row → ⊥) → (more : List Row) → Gains row come more → IsDifference first new (record { come = more; gone = still })
      comes_new not_gone more adds = record {
        come = λ r. (
          λ c. elim ((adds.each r).0 c) [
            | inl e ↦ ((gains.each r).1 (inl e), λ f. not_gone ((is.gone row).1 (subst (Contains first) e f, not_old)))
            | inr d ↦ ((gains.each r).1 (inr ((is.come r).0 d).0), ((is.come r).0 d).1)
          ],
          λ both. elim ((gains.each r).0 both.0) [ inl e ↦ (adds.each r).1 (inl e) | inr o ↦ (adds.each r).1 (inr ((is.come r).1 (o, both.1))) ],
        );
        gone = gone_before;
      }

  -- ---- a row that is removed

  module _ (loses : Loses row old new) where
    pub removed_again : (Contains old row → ⊥) → IsDifference first new (record { come = come; gone = gone })
    removed_again absent = same_difference first old new (record { come = come; gone = gone })
        (λ r. (λ n. ((loses.each r).0 n).1, λ o. (loses.each r).1 (λ e. absent (subst (Contains old) e o), o))) is

    module _ (was : Contains old row) (still : List Row) (less : Loses row come still) where
      come_before : (r : Row) → Contains still r ↔ (Contains new r × (Contains first r → ⊥))
      come_before r = (
        λ c. ((loses.each r).1 (((less.each r).0 c).0, ((is.come r).0 ((less.each r).0 c).1).0), ((is.come r).0 ((less.each r).0 c).1).1),
        λ both. (less.each r).1 (((loses.each r).0 both.0).0, (is.come r).1 (((loses.each r).0 both.0).1, both.1)),
      )

      -- it had come
      pub goes_back : Contains come row → IsDifference first new (record { come = still; gone = gone })
      goes_back came = record {
        come = come_before;
        gone = λ r. (
          λ c. (((is.gone r).0 c).0, λ n. ((is.gone r).0 c).1 ((loses.each r).0 n).1),
          λ both. elim (same_row r row) [
            | inl e ↦ absurd (((is.come row).0 came).1 (subst (Contains first) e both.0))
            | inr other ↦ (is.gone r).1 (both.0, λ o. both.1 ((loses.each r).1 (other, o)))
          ],
        );
      }

      -- it was there at first
      pub goes_away : (Contains come row → ⊥) → (more : List Row) → Gains row gone more → IsDifference first new (record { come = still; gone = more })
      goes_away not_come more adds = record {
        come = come_before;
        gone = λ r. (
          λ c. elim ((adds.each r).0 c) [
            | inl e ↦ (subst (Contains first) (sym e) there, λ n. ((loses.each r).0 n).0 e)
            | inr d ↦ (((is.gone r).0 d).0, λ n. ((is.gone r).0 d).1 ((loses.each r).0 n).1)
          ],
          λ both. elim (same_row r row) [
            | inl e ↦ (adds.each r).1 (inl e)
            | inr other ↦ (adds.each r).1 (inr ((is.gone r).1 (both.0, λ o. both.1 ((loses.each r).1 (other, o)))))
          ],
        );
      }
        where
          there : Contains first row
          there = elim (has_row first row) [ inl c ↦ c | inr none ↦ absurd (not_come ((is.come row).1 (was, none))) ]

-- ---- rows that are put back

pub put_back : (first old mid new come gone : List Row) (d : Difference) → AreRisingRows first → AreRisingRows new → IsDifference first old d → IsListOf d.come come → IsListOf d.gone gone
    → RemovesEach come old mid → AddsEach gone mid new → new ≡ first
put_back first old mid new come gone d first_rises new_rises is came went removes adds =
    same_rising numbered_row_cmp numbered_total numbered_same new first new_rises first_rises into back
  where
    into : (r : Row) → Contains new r → Contains first r
    into r n = elim ((adds r).0 n) [
      | inl g ↦ ((is.gone r).0 ((went.each r).0 g)).0
      | inr m ↦ elim (has_row first r) [
        | inl f ↦ f
        | inr none ↦ absurd (let l = (removes r).0 m in l.0 ((came.each r).1 ((is.come r).1 (l.1, none))))
      ]
    ]

    back : (r : Row) → Contains first r → Contains new r
    back r f = elim (has_row old r) [
      | inl o ↦ (adds r).1 (inr ((removes r).1 (λ c. ((is.come r).0 ((came.each r).0 c)).1 f, o)))
      | inr none ↦ (adds r).1 (inl ((went.each r).1 ((is.gone r).1 (f, none))))
    ]

-- ---- the rows of a list, one after the other

from_first : (list : List Row) (i : ℕ) (row r : Row) → i < length list → row ≡ get_or list i row → Contains (take (i + 1) list) r → (r ≡ row) ⊎ Contains (take i list) r
from_first list i row r inside is c =
    contains_cut (take i list) row r (subst (λ (xs : List Row). Contains xs r) (take_more list i row inside ∙ ap (λ (x : Row). take i list ++ x ∷ []) (sym is)) c)

into_first : (list : List Row) (i : ℕ) (row r : Row) → i < length list → row ≡ get_or list i row → (r ≡ row) ⊎ Contains (take i list) r → Contains (take (i + 1) list) r
into_first list i row r inside is either =
    subst (λ (xs : List Row). Contains xs r) (sym (take_more list i row inside ∙ ap (λ (x : Row). take i list ++ x ∷ []) (sym is)))
    (elim either [ inl e ↦ subst (Contains (take i list ++ row ∷ [])) (sym e) (Contains-push (take i list) row) | inr c ↦ Contains-append_left (take i list) (row ∷ []) r c ])

pub adds_none : (list rows : List Row) → AddsEach (take 0 list) rows rows
adds_none list rows r = (λ c. inr c, λ either. elim either [ inl c ↦ absurd (none_here r c) | inr d ↦ d ])

pub adds_more : (list : List Row) (i : ℕ) (row : Row) (old mid new : List Row) → i < length list → row ≡ get_or list i row → Gains row mid new → AddsEach (take i list) old mid → AddsEach (take (i + 1) list) old new
adds_more list i row old mid new inside is gains adds r = (
  λ n. elim ((gains.each r).0 n) [
    | inl e ↦ inl (into_first list i row r inside is (inl e))
    | inr m ↦ elim ((adds r).0 m) [ inl c ↦ inl (into_first list i row r inside is (inr c)) | inr o ↦ inr o ]
  ],
  λ either. elim either [
    | inl c ↦ elim (from_first list i row r inside is c) [ inl e ↦ (gains.each r).1 (inl e) | inr d ↦ (gains.each r).1 (inr ((adds r).1 (inl d))) ]
    | inr o ↦ (gains.each r).1 (inr ((adds r).1 (inr o)))
  ],
)

pub adds_all : (list : List Row) (i : ℕ) (old new : List Row) → length list ≤ i → AddsEach (take i list) old new → AddsEach list old new
adds_all list i old new over adds = subst (λ (xs : List Row). AddsEach xs old new) (take_all i list over) adds

pub removes_none : (list rows : List Row) → RemovesEach (take 0 list) rows rows
removes_none list rows r = (λ c. (λ d. none_here r d, c), λ both. both.1)

pub removes_more : (list : List Row) (i : ℕ) (row : Row) (old mid new : List Row) → i < length list → row ≡ get_or list i row → Loses row mid new → RemovesEach (take i list) old mid
    → RemovesEach (take (i + 1) list) old new
removes_more list i row old mid new inside is loses removes r = (
  λ n. (let l = (loses.each r).0 n in
      (λ c. elim (from_first list i row r inside is c) [ inl e ↦ l.0 e | inr d ↦ ((removes r).0 l.1).0 d ], ((removes r).0 l.1).1)),
  λ both. (loses.each r).1 (λ e. both.0 (into_first list i row r inside is (inl e)), (removes r).1 (λ c. both.0 (into_first list i row r inside is (inr c)), both.1)),
)

pub removes_all : (list : List Row) (i : ℕ) (old new : List Row) → length list ≤ i → RemovesEach (take i list) old new → RemovesEach list old new
removes_all list i old new over removes = subst (λ (xs : List Row). RemovesEach xs old new) (take_all i list over) removes
