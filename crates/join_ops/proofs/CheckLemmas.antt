-- What a level tests, one condition after another.
use Rattle.std.proofs.Common.{◌≡◌, ◌≤◌, ◌<◌, ◌+◌, ◌++◌, ◌⊎◌, inl, inr, ℕ, suc, List, [], ◌∷◌, Some, length, take, get_or, slice_get, Contains, sym, ap, ◌∙◌, subst, arith}
use Rattle.std.proofs.lemmas.List.{take_more}
use Rattle.std.proofs.lemmas.List.Elements.{All-push, Contains-append_left, Contains-push, Contains-push_cases}
use Rattle.std.proofs.lemmas.Option.{slice_get-get_or}
use Rattle.dl_base.specs.Tables.{TableRow}
use Rattle.dl_base.specs.declared.element.Elem.{Elem}
use Rattle.dl_base.proofs.PlaceLemmas.{some_same}
use Rattle.join_ops.specs.Conditions.{IsLevelOf, IsUnder, Meets}
use Rattle.join_ops.specs.Levels.{AreChecks, AreUnder, HoldsByOffer, IsChecked, MeetsAll}
use Rattle.join_ops.specs.declared.condition.Condition.{Condition}
use Rattle.join_ops.specs.declared.source.Source.{Source}
use Rattle.join_ops.proofs.SearchSteps.{take_all}

nothing : {X : Type 0} (x : X) → Contains [] x → ⊥
nothing x there = let below = there.1 in omega (arith, below)

-- what one more of the places adds
pub meets_none : (table : List TableRow) (conditions : List Condition) (elements : List Elem) → MeetsAll table conditions [] elements
meets_none table conditions elements i c there at = absurd (nothing i there)

pub meets_more : (table : List TableRow) (conditions : List Condition) (checks : List ℕ) (elements : List Elem) (n : ℕ) → n < length checks → (c : Condition) → slice_get conditions (get_or checks n 0) ≡ Some c
    → MeetsAll table conditions (take n checks) elements → Meets table elements c → MeetsAll table conditions (take (n + 1) checks) elements
meets_more table conditions checks elements n below c at before here i d there is = by (Contains-push_cases (take n checks) (get_or checks n 0) i (subst (λ (l : List ℕ). Contains l i) (take_more checks n 0 below) there))
  where
    by : Contains (take n checks) i ⊎ (get_or checks n 0 ≡ i) → Meets table elements d
    by (inl old) = before i d old is
    by (inr same) = subst (Meets table elements) (some_same (sym at ∙ ap (λ (j : ℕ). slice_get conditions j) same ∙ is)) here

-- ---- the places that are tested

-- the places for so many first conditions
pub record ChecksSoFar (conditions : List Condition) (s : Source) (k place : ℕ) (checks : List ℕ) : Type 0 where
  pub under : AreUnder conditions (suc k) checks
  pub all : (c : Condition) → Contains (take place conditions) c → IsLevelOf k c → IsUnder (suc k) c → IsChecked conditions checks c ⊎ HoldsByOffer s k c

pub no_checks : (conditions : List Condition) (s : Source) (k : ℕ) → ChecksSoFar conditions s k 0 []
no_checks conditions s k = record {
  under = λ i d below. absurd (omega (arith, below));
  all = λ c there speaks under. absurd (nothing c there);
}

pub checks_done : (conditions : List Condition) (s : Source) (k place : ℕ) (checks : List ℕ) → length conditions ≤ place → ChecksSoFar conditions s k place checks → AreChecks conditions s k checks
checks_done conditions s k place checks ends so_far = record {
  under = so_far.under;
  all = λ c there. so_far.all c (subst (λ (l : List Condition). Contains l c) (sym (take_all place conditions ends)) there);
}

module _ (conditions : List Condition) (s : Source) (k place : ℕ) (checks : List ℕ) (d : Condition) (below : place < length conditions) (so_far : ChecksSoFar conditions s k place checks) where
  one_of : (c : Condition) → Contains (take (place + 1) conditions) c → Contains (take place conditions) c ⊎ (get_or conditions place d ≡ c)
  one_of c there = Contains-push_cases (take place conditions) (get_or conditions place d) c (subst (λ (l : List Condition). Contains l c) (take_more conditions place d below) there)

  pub one_checked : IsUnder (suc k) (get_or conditions place d) → ChecksSoFar conditions s k (place + 1) (checks ++ place ∷ [])
  one_checked under = record {
    under = All-push (λ (i : ℕ). (c : Condition) × (slice_get conditions i ≡ Some c) × IsUnder (suc k) c) checks place so_far.under (get_or conditions place d, slice_get-get_or conditions place d below, under);
    all = λ c there speaks is. elim (one_of c there) [
      | inl old ↦ elim (so_far.all c old speaks is) [
        | inl checked ↦ inl (checked.0, Contains-append_left checks (place ∷ []) checked.0 checked.1, checked.2)
        | inr gives ↦ inr gives
      ]
      | inr same ↦ inl (place, Contains-push checks place, slice_get-get_or conditions place d below ∙ ap Some same)
    ];
  }

  pub one_given : (IsLevelOf k (get_or conditions place d) → IsUnder (suc k) (get_or conditions place d) → HoldsByOffer s k (get_or conditions place d)) → ChecksSoFar conditions s k (place + 1) checks
  one_given gives = record {
    under = so_far.under;
    all = λ c there speaks is. elim (one_of c there) [
      | inl old ↦ so_far.all c old speaks is
      | inr same ↦ inr (subst (HoldsByOffer s k) same (gives (subst (IsLevelOf k) (sym same) speaks) (subst (IsUnder (suc k)) (sym same) is)))
    ];
  }
