-- Laws of the bits of words.
use Rattle.std.proofs.Common.{◌≡◌, ◌≢◌, ℕ, zero, suc, ◌+◌, ◌-◌, ◌*◌, ◌/◌, ◌%◌, ◌^◌, ◌<◌, ◌≤◌, ◌⊎◌, inl, inr, ◌==◌, Bool, true, false, nat_lt, List, [], ◌∷◌, ◌++◌, get_or, All, refl, sym, ◌∙◌, ap, arith, if◌then◌else◌}
use Rattle.std.specs.Int.{bit_at, w64, trailing_zeros}
use Rattle.std.specs.List.{AllByRecursion}
use Rattle.std.proofs.Math.Nat.{div-div-eq-div-mul}
use Rattle.std.proofs.lemmas.Bool.{cases_eq}
use Rattle.std.proofs.lemmas.Bool.Decides.{nat_tests}
use Rattle.std.proofs.lemmas.Nat.{pow-add}
use Rattle.std.proofs.lemmas.Nat.Bits.{bit_at-trailing_zeros, bit_at-suc, bit_at-zero, bit_at_above}
use Rattle.dl_base.proofs.DerivationLemmas.{all-of}
use Rattle.horn_closure.specs.Run.{count, bit}
use Rattle.horn_closure.proofs.CountLemmas.{same_is, other_is, count_more}

-- the bit where it is below the end, and else 0
abbrev pub below : ℕ → ℕ → ℕ → ℕ
below word end k = if nat_lt k end then bit_at word k else 0

lt_is : (k n : ℕ) → k < n → nat_lt k n ≡ true
lt_is k n h = grind (arith, nat_tests)

ge_is : (k n : ℕ) → n ≤ k → nat_lt k n ≡ false
ge_is k n h = grind (arith, nat_tests)

pub below_inside : (word end k : ℕ) → k < end → below word end k ≡ bit_at word k
below_inside word end k h = rw (lt_is k end h) refl

pub below_past : (word end k : ℕ) → end ≤ k → below word end k ≡ 0
below_past word end k h = rw (ge_is k end h) refl

-- the bits of a number shifted down
pub shifted : (n k i : ℕ) → bit_at (n / 2 ^ k) i ≡ bit_at n (k + i)
shifted n k i = ap (λ m. m % 2) (div-div-eq-div-mul n (2 ^ k) (2 ^ i) ∙ ap (λ m. n / m) (sym (pow-add 2 k i)))

-- what is left of the word after its lowest bit
pub shifted_past : (word rest at t i : ℕ) → ((i : ℕ) → bit_at rest i ≡ bit_at word (at + i)) → bit_at (rest / 2 ^ t / 2) i ≡ bit_at word (at + t + 1 + i)
shifted_past word rest at t i bits =
    let index : at + (t + suc i) ≡ at + t + 1 + i = omega arith in
    sym (bit_at-suc (rest / 2 ^ t) i) ∙ shifted rest t (suc i) ∙ bits (t + suc i) ∙ ap (bit_at word) index

-- the next bit of the word that is set
pub record IsNext (word at next : ℕ) : Type 0 where
  pub inside : next < 64
  pub set : bit_at word next ≡ 1
  pub clear : (k : ℕ) → at ≤ k → k < next → bit_at word k ≡ 0

pub next_bit : (word rest at : ℕ) → word < 2 ^ 64 → rest < 2 ^ 64 → 0 < rest → ((i : ℕ) → bit_at rest i ≡ bit_at word (at + i)) → IsNext word at (at + trailing_zeros w64 rest)
next_bit word rest at word_fits rest_fits some bits = record {
  inside = by ((at + trailing_zeros w64 rest) / 64) refl;
  set = set_there;
  clear = λ k from to.
      let index : at + (k - at) ≡ k = omega arith in
      ap (bit_at word) (sym index) ∙ sym (bits (k - at)) ∙ lowest.2 (k - at) (omega arith);
}
  where
    lowest : (trailing_zeros w64 rest < 64) × (bit_at rest (trailing_zeros w64 rest) ≡ 1) × ((i : ℕ) → i < trailing_zeros w64 rest → bit_at rest i ≡ 0)
    lowest = bit_at-trailing_zeros w64 rest some rest_fits

    set_there : bit_at word (at + trailing_zeros w64 rest) ≡ 1
    set_there = sym (bits (trailing_zeros w64 rest)) ∙ lowest.1

    by : (h : ℕ) → (at + trailing_zeros w64 rest) / 64 ≡ h → at + trailing_zeros w64 rest < 64
    by zero e = omega arith
    by (suc h) e =
        let none : bit_at word (at + trailing_zeros w64 rest) ≡ 0 = bit_at_above word 64 (at + trailing_zeros w64 rest) word_fits (omega arith) in
        let one : bit_at word (at + trailing_zeros w64 rest) ≡ 1 = set_there in absurd (cc)

-- the bits below the end, after the next that is set
pub below_next : (word at next k : ℕ) → at ≤ next → IsNext word at next → below word at k + (if next == k then 1 else 0) ≡ below word (next + 1) k
below_next word at next k le is = by (next == k) refl
  where
    inside_or_past : (t : Bool) → nat_lt k at ≡ t → next ≢ k → below word at k ≡ below word (next + 1) k
    inside_or_past true e ne = let in_front : k < at = grind (arith, nat_tests) in below_inside word at k in_front ∙ sym (below_inside word (next + 1) k (omega arith))
    inside_or_past false e ne = let behind : at ≤ k = grind (arith, nat_tests) in below_past word at k behind ∙ past_or_between (nat_lt k next) refl behind
      where
        past_or_between : (t : Bool) → nat_lt k next ≡ t → at ≤ k → 0 ≡ below word (next + 1) k
        past_or_between true e behind = let between : k < next = grind (arith, nat_tests) in sym (is.clear k behind between) ∙ sym (below_inside word (next + 1) k (omega arith))
        past_or_between false e behind = let past : next ≤ k = grind (arith, nat_tests) in sym (below_past word (next + 1) k (omega arith))

    by : (t : Bool) → (next == k) ≡ t → below word at k + (if next == k then 1 else 0) ≡ below word (next + 1) k
    by true e =
        let same : next ≡ k = grind (arith, nat_tests) in
        let old : below word at k ≡ 0 = below_past word at k (omega arith) in
        let new : below word (next + 1) k ≡ bit_at word k = below_inside word (next + 1) k (omega arith) in
        let set : bit_at word k ≡ 1 = rw same at is.set in
        rw e (omega arith)
    by false e =
        let ne : next ≢ k = grind (arith, nat_tests) in
        let kept : below word at k ≡ below word (next + 1) k = inside_or_past (nat_lt k at) refl ne in
        rw e (omega arith)

-- the places of the bits of word w below the end, after the next that is set
pub word_next : (word at next w p : ℕ) → at ≤ next → IsNext word at next
    → (if p / 64 == w then below word at (p % 64) else 0) + (if 64 * w + next == p then 1 else 0) ≡ (if p / 64 == w then below word (next + 1) (p % 64) else 0)
word_next word at next w p le is = by (p / 64 == w) refl
  where
    by : (t : Bool) → (p / 64 == w) ≡ t
        → (if p / 64 == w then below word at (p % 64) else 0) + (if 64 * w + next == p then 1 else 0) ≡ (if p / 64 == w then below word (next + 1) (p % 64) else 0)
    by true e = rw (e, same_test (cases_eq next (p % 64))) (below_next word at next (p % 64) le is)
      where
        word_is : p / 64 ≡ w
        word_is = grind (arith, nat_tests)

        same_test : (next ≡ p % 64) ⊎ (next ≢ p % 64) → (64 * w + next == p) ≡ (next == p % 64)
        same_test (inl same) =
            let whole : 64 * w + next ≡ p = (let is_word : p / 64 ≡ w = word_is in omega arith) in
            rw (whole, same_is p) (sym (rw same (same_is (p % 64))))
        same_test (inr other) =
            let whole : 64 * w + next ≢ p = λ h. other (let is_word : p / 64 ≡ w = word_is in let below_64 : next < 64 = is.inside in omega arith) in
            other_is (64 * w + next) p whole ∙ sym (other_is next (p % 64) other)
    by false e =
        let ne : p / 64 ≢ w = grind (arith, nat_tests) in
        let other : 64 * w + next ≢ p = λ h. ne (let below_64 : next < 64 = is.inside in omega arith) in
        rw (e, other_is (64 * w + next) p other) refl

-- at the end of a word
pub word_end : (word rest at w p : ℕ) → rest ≡ 0 → ((i : ℕ) → bit_at rest i ≡ bit_at word (at + i))
    → (if p / 64 == w then below word at (p % 64) else 0) ≡ (if p / 64 == w then bit_at word (p % 64) else 0)
word_end word rest at w p none bits = ap (λ n. if p / 64 == w then n else 0) (by (nat_lt (p % 64) at) refl)
  where
    by : (t : Bool) → nat_lt (p % 64) at ≡ t → below word at (p % 64) ≡ bit_at word (p % 64)
    by true e = let in_front : p % 64 < at = grind (arith, nat_tests) in below_inside word at (p % 64) in_front
    by false e =
        let behind : at ≤ p % 64 = grind (arith, nat_tests) in
        let index : at + (p % 64 - at) ≡ p % 64 = omega arith in
        let zero_rest : bit_at rest (p % 64 - at) ≡ 0 = rw none (bit_at-zero (p % 64 - at)) in
        below_past word at (p % 64) behind ∙ sym zero_rest ∙ bits (p % 64 - at) ∙ ap (bit_at word) index

pub word_counts : (old queue : List ℕ) (word at next w p : ℕ) → at ≤ next → IsNext word at next
    → count p queue ≡ count p old + (if p / 64 == w then below word at (p % 64) else 0)
    → count p (queue ++ (64 * w + next) ∷ []) ≡ count p old + (if p / 64 == w then below word (next + 1) (p % 64) else 0)
word_counts old queue word at next w p le is each =
    let more : count p (queue ++ (64 * w + next) ∷ []) ≡ count p queue + (if 64 * w + next == p then 1 else 0) = count_more p (64 * w + next) queue in
    let step : (if p / 64 == w then below word at (p % 64) else 0) + (if 64 * w + next == p then 1 else 0) ≡ (if p / 64 == w then below word (next + 1) (p % 64) else 0) = word_next word at next w p le is in
    omega arith

-- the bits of the first words
abbrev pub bits_before : List ℕ → ℕ → ℕ → ℕ
bits_before words w p = if nat_lt (p / 64) w then bit_at (get_or words (p / 64) 0) (p % 64) else 0

pub words_next : (words : List ℕ) (word w p : ℕ) → word ≡ get_or words w 0 → bits_before words w p + (if p / 64 == w then bit_at word (p % 64) else 0) ≡ bits_before words (w + 1) p
words_next words word w p is = by (p / 64 == w) refl
  where
    same_test : (p / 64 ≢ w) → nat_lt (p / 64) w ≡ nat_lt (p / 64) (w + 1)
    same_test ne = choose (nat_lt (p / 64) w) refl
      where
        choose : (t : Bool) → nat_lt (p / 64) w ≡ t → nat_lt (p / 64) w ≡ nat_lt (p / 64) (w + 1)
        choose true e = let in_front : p / 64 < w = grind (arith, nat_tests) in e ∙ sym (lt_is (p / 64) (w + 1) (omega arith))
        choose false e = let behind : w ≤ p / 64 = grind (arith, nat_tests) in e ∙ sym (ge_is (p / 64) (w + 1) (omega arith))

    by : (t : Bool) → (p / 64 == w) ≡ t → bits_before words w p + (if p / 64 == w then bit_at word (p % 64) else 0) ≡ bits_before words (w + 1) p
    by true e =
        let same : p / 64 ≡ w = grind (arith, nat_tests) in
        rw (e, ge_is (p / 64) w (omega arith), lt_is (p / 64) (w + 1) (omega arith), same, is) (omega arith)
    by false e =
        let ne : p / 64 ≢ w = grind (arith, nat_tests) in
        rw (e, same_test ne) (omega arith)

-- each number of a list without numbers from n on is below n
pub all_from_counts : (n : ℕ) (xs : List ℕ) → ((p : ℕ) → n ≤ p → count p xs ≡ 0) → All (λ p. p < n) xs
all_from_counts n xs none = all-of (λ p. p < n) xs (each xs none)
  where
    each : (ys : List ℕ) → ((p : ℕ) → n ≤ p → count p ys ≡ 0) → AllByRecursion (λ p. p < n) ys
    each [] h = tt
    each (y ∷ ys) h = (here (nat_lt y n) refl, each ys (λ p past. let whole : count p (y ∷ ys) ≡ 0 = h p past in omega arith))
      where
        here : (t : Bool) → nat_lt y n ≡ t → y < n
        here true e = grind (arith, nat_tests)
        here false e = let past : n ≤ y = grind (arith, nat_tests) in
            let whole : 1 + count y ys ≡ 0 = rw (same_is y) at (h y past) in absurd (omega arith)

pub words_first : (words : List ℕ) (p : ℕ) → bits_before words 0 p ≡ 0
words_first words p = rw (ge_is (p / 64) 0 (omega arith)) refl

pub words_past : (words : List ℕ) (w p : ℕ) → w ≤ p / 64 → bits_before words w p ≡ 0
words_past words w p past = rw (ge_is (p / 64) w past) refl

pub words_end : (words held : List ℕ) (w p : ℕ) → p / 64 < w → words ≡ held → bits_before words w p ≡ bit held p
words_end words held w p inside is = rw (lt_is (p / 64) w inside, is) refl

pub words_counts : (old new words : List ℕ) (w p : ℕ) → count p new ≡ count p old + (if p / 64 == w then bit_at (get_or words w 0) (p % 64) else 0) → count p old ≡ bits_before words w p
    → count p new ≡ bits_before words (w + 1) p
words_counts old new words w p more before =
    let step : bits_before words w p + (if p / 64 == w then bit_at (get_or words w 0) (p % 64) else 0) ≡ bits_before words (w + 1) p = words_next words (get_or words w 0) w p refl in
    omega arith
