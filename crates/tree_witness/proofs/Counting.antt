-- How many distinct numbers there are below one.
use Rattle.std.proofs.Common.{◌≡◌, ◌≢◌, ℕ, ◌+◌, ◌<◌, ◌≤◌, List, ◌∷◌, length, get_or, AllPairs, Contains, sym, arith}
use Rattle.std.specs.List.{range_with_len}
use Rattle.std.proofs.lemmas.List.Elements.{Contains-get_or}
use Rattle.std.proofs.lemmas.List.FromFn.{get_or-range_with_len, length-range_with_len}
use Rattle.std.proofs.lemmas.List.Kept.{AllPairs-cons}
use Rattle.dl_base.proofs.PlaceLemmas.{no_more}

-- one more that none of them is
pub distinct_more : (k : ℕ) (ks : List ℕ) → ((j : ℕ) → Contains ks j → j ≢ k) → AllPairs (λ i j. i ≢ j) ks → AllPairs (λ i j. i ≢ j) (k ∷ ks)
distinct_more k ks other distinct = AllPairs-cons (λ (i : ℕ) (j : ℕ). i ≢ j) k ks (λ i d lt is. other (get_or ks i d) (Contains-get_or ks i d lt) (sym is)) distinct

-- distinct numbers below one are no more than it
pub few_distinct : (n : ℕ) (ks : List ℕ) → AllPairs (λ i j. i ≢ j) ks → ((k : ℕ) → Contains ks k → k < n) → length ks ≤ n
few_distinct n ks distinct below =
    let most : length ks ≤ length (range_with_len 0 n) = no_more ks (range_with_len 0 n) distinct (λ k c. among k (below k c)) in
    omega (arith, most, length-range_with_len 0 n)
  where
    among : (k : ℕ) → k < n → Contains (range_with_len 0 n) k
    among k within =
        let here : get_or (range_with_len 0 n) k k ≡ 0 + k = get_or-range_with_len 0 n k k within in
        (k, omega (arith, within, length-range_with_len 0 n), omega (arith, here))
