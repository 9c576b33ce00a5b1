-- Levels, one after another, and what they check.
use Rattle.std.proofs.Common.{◌≡◌, ◌≤◌, ◌<◌, ◌+◌, ℕ, ◌⊎◌, inl, inr, List, [], ◌∷◌, ◌++◌, Option, Some, length, map, take, slice_get, get_or, Contains, refl, sym, ap, ◌∙◌, subst, arith, add-one}
use Rattle.std.proofs.lemmas.List.{map_push, length-take-le}
use Rattle.std.proofs.lemmas.Option.{slice_get_within}
use Rattle.std.proofs.Math.Seq.{take-suc}
use Rattle.dl_base.proofs.PlaceLemmas.{some_same}
use Rattle.query_shape.specs.Shape.{IsBelow, IsTermOf}
use Rattle.query_shape.specs.declared.layout.ShapeAtom.{ShapeAtom}
use Rattle.query_shape.specs.declared.layout.ShapeAtom.TheVariants as shape
use Rattle.join_ops.specs.Conditions.{IsUnder}
use Rattle.join_ops.specs.Levels.{fixed_on, IsTermLevel, AreLevels, AreOnLevels, IsSearch}
use Rattle.join_ops.specs.declared.condition.Condition.{Condition}
use Rattle.join_ops.specs.declared.condition.Condition.TheVariants as condition
use Rattle.join_ops.specs.declared.level.Level.{Level}
use Rattle.join_ops.proofs.LevelLemmas.{get_front, get_at, length_more, levels_long, last_or}

so_far : (levels : List Level) (fixed : List (Option ℕ)) (term : ℕ) → term < length fixed → map fixed_on levels ≡ take term fixed → length levels ≡ term
so_far levels fixed term below are = sym (levels_long levels) ∙ ap length are ∙ length-take-le term fixed (omega arith)

pub fixed_more : (levels : List Level) (l : Level) (fixed : List (Option ℕ)) (term : ℕ) (d : Option ℕ) → term < length fixed → map fixed_on levels ≡ take term fixed
    → fixed_on l ≡ get_or fixed term d → map fixed_on (levels ++ l ∷ []) ≡ take (term + 1) fixed
fixed_more levels l fixed term d below are is =
    let front = map_push fixed_on levels l in
    let more = take-suc fixed term d below in
    front ∙ ap (λ (os : List (Option ℕ)). os ++ fixed_on l ∷ []) are ∙ ap (λ (o : Option ℕ). take term fixed ++ o ∷ []) is ∙ sym more ∙ ap (λ (n : ℕ). take n fixed) (sym (add-one term))

pub levels_more : (conditions : List Condition) (levels : List Level) (l : Level) (fixed : List (Option ℕ)) (term : ℕ) → term < length fixed → map fixed_on levels ≡ take term fixed
    → AreLevels conditions levels → IsTermLevel conditions term l → AreLevels conditions (levels ++ l ∷ [])
levels_more conditions levels l fixed term below are before is k m at = by (last_or k (length levels) (let within = slice_get_within (levels ++ l ∷ []) k m at in omega (arith, within, length_more levels l)))
  where
    by : (k < length levels) ⊎ (length levels ≡ k) → IsTermLevel conditions k m
    by (inl less) = before k m (sym (get_front levels (l ∷ []) k less) ∙ at)
    by (inr same) =
        let last : slice_get (levels ++ l ∷ []) (length levels) ≡ Some l = get_at levels l [] in
        let there : slice_get (levels ++ l ∷ []) (length levels) ≡ Some m = ap (λ (n : ℕ). slice_get (levels ++ l ∷ []) n) same ∙ at in
        let is_it : l ≡ m = some_same (sym last ∙ there) in
        let place : term ≡ k = sym (so_far levels fixed term below are) ∙ same in
        subst (λ (n : ℕ). IsTermLevel conditions n m) place (subst (λ (x : Level). IsTermLevel conditions term x) is_it is)

some_below : (count : ℕ) (a : ShapeAtom) → IsBelow count a → 1 ≤ count
some_below count (shape.Concept c n) below = omega arith
some_below count (shape.Role r n m) below = omega (arith, below.0)

some_under : (count : ℕ) (c : Condition) → IsUnder count c → 1 ≤ count
some_under count (condition.Atom a) under = some_below count a under
some_under count (condition.Twins t) under = omega (arith, under.0)

first_at : (xs : List Condition) → 1 ≤ length xs → (x : Condition) × Contains xs x
first_at [] some = absurd (omega arith)
first_at (x ∷ xs) some = (x, (0, omega arith, refl))

pub new_search : (conditions : List Condition) (levels : List Level) (fixed : List (Option ℕ)) (count : ℕ) → AreOnLevels (length fixed) conditions
    → map fixed_on levels ≡ fixed → count ≡ length fixed → AreLevels conditions levels → IsSearch conditions levels count
new_search conditions levels fixed count on are counts each =
    let first = first_at conditions on.some in
    record {
      some = some_under count first.0 (rw counts (on.under first.0 first.1));
      each = omega (arith, levels_long levels, ap length are, counts);
      under = λ c there. rw counts (on.under c there);
      levels_are = each;
    }

-- the terms of the atoms where the conditions are these
pub used_along : (conditions others : List Condition) (count k : ℕ) → conditions ≡ others → AreOnLevels count conditions → k < count → (a : ShapeAtom) × Contains others (condition.Atom a) × IsTermOf k a
used_along conditions others count k same on below =
    let used = on.used k below in
    (used.0, subst (λ (l : List Condition). Contains l (condition.Atom used.0)) same used.1, used.2)
