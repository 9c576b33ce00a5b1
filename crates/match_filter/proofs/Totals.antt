-- Sums that fall as lists change.
use Rattle.std.proofs.Common.{◌≡◌, ℕ, zero, suc, ◌+◌, ◌<◌, ◌≤◌, inl, inr, Bool, true, false, List, [], ◌∷◌, get_or, set, subst, arith}
use Rattle.query_shape.proofs.MatchList.{Decided}
use Rattle.match_filter.proofs.Choices.{decide_below}

-- the sum of the first so many numbers
pub total : ℕ → List ℕ → ℕ
total zero xs = 0
total (suc n) xs = get_or xs n 0 + total n xs

total_at_most : (n : ℕ) (xs ys : List ℕ) → ((k : ℕ) → k < n → get_or ys k 0 ≤ get_or xs k 0) → total n ys ≤ total n xs
unfolding total
total_at_most zero xs ys most = omega arith
total_at_most (suc n) xs ys most =
    let last : get_or ys n 0 ≤ get_or xs n 0 = most n (omega arith) in
    let others : total n ys ≤ total n xs = total_at_most n xs ys (λ k lt. most k (omega arith)) in
    omega arith

-- where none of them rises and one falls, the sum falls
pub total_falls : (n : ℕ) (xs ys : List ℕ) (i : ℕ) → i < n → ((k : ℕ) → k < n → get_or ys k 0 ≤ get_or xs k 0) → get_or ys i 0 < get_or xs i 0 → total n ys < total n xs
unfolding total
total_falls zero xs ys i lt most falls = absurd (omega arith)
total_falls (suc n) xs ys i lt most falls = by (decide_below i n) (λ before. total_falls n xs ys i before (λ k lt. most k (omega arith)) falls)
  where
    last : get_or ys n 0 ≤ get_or xs n 0
    last = most n (omega arith)

    by : Decided (i < n) → (i < n → total n ys < total n xs) → get_or ys n 0 + total n ys < get_or xs n 0 + total n xs
    by (inl before) rec =
        let others : total n ys < total n xs = rec before in
        let most_last = last in
        omega arith
    by (inr after) rec =
        let others : total n ys ≤ total n xs = total_at_most n xs ys (λ k lt. most k (omega arith)) in
        let here : i ≡ n = grind arith in
        let falls_last : get_or ys n 0 < get_or xs n 0 = subst (λ (k : ℕ). get_or ys k 0 < get_or xs k 0) here falls in
        omega arith

-- how many are true
pub waits : List Bool → ℕ
waits [] = 0
waits (true ∷ bs) = suc (waits bs)
waits (false ∷ bs) = waits bs

waits_less : (b : Bool) (bs cs : List Bool) → waits cs < waits bs → waits (b ∷ cs) < waits (b ∷ bs)
unfolding waits
waits_less true bs cs lt = omega arith
waits_less false bs cs lt = lt

-- where one that waited stops, fewer wait
pub waits_fall : (bs : List Bool) (i : ℕ) → get_or bs i false ≡ true → waits (set bs i false) < waits bs
unfolding waits
waits_fall [] i is = absurd cc
waits_fall (true ∷ bs) zero is = omega arith
waits_fall (false ∷ bs) zero is = absurd cc
waits_fall (b ∷ bs) (suc i) is = waits_less b bs (set bs i false) (waits_fall bs i is)
