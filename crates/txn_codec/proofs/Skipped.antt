-- Lists of so many values, gone over to the end and then read one at a time.
use Rattle.std.proofs.Common.{◌≡◌, ℕ, zero, suc, ◌+◌, ◌-◌, ◌<◌, ◌≤◌, List, [], ◌∷◌, length, Ok, Err, refl, sym, ap, ◌∙◌, arith}
use Rattle.grammar.specs.Reading.{Outcome, and_then}
use Rattle.txn_codec.specs.PiecesReading.{times_at}
use Rattle.txn_codec.specs.Skimming.{behind, value_or}

pub behind_times-some : {V : Type 0} (step : List ℕ → Outcome V) (count i : ℕ) (text : List ℕ) (v : V) (after : List ℕ) → i < count → step text ≡ Ok (v, after)
    → behind (times_at step (count - i) text) ≡ behind (times_at step (count - (i + 1)) after)
unfolding times_at
behind_times-some {V} step count i text v after lt e =
    let k : count - i ≡ suc (count - (i + 1)) = omega arith in
    rw (k, e) (same v (times_at step (count - (i + 1)) after))
  where
    same : (v : V) (r : Outcome (List V)) → behind (and_then r (λ y. Ok (v ∷ y.0, y.1))) ≡ behind r
    same v (Ok x) = refl
    same v (Err left) = refl

pub behind_times-err : {V : Type 0} (step : List ℕ → Outcome V) (count i : ℕ) (text : List ℕ) (left : ℕ) → i < count → step text ≡ Err left
    → behind (times_at step (count - i) text) ≡ Err left
unfolding times_at
behind_times-err step count i text left lt e =
    let k : count - i ≡ suc (count - (i + 1)) = omega arith in
    rw (k, e) refl

pub behind_times-end : {V : Type 0} (step : List ℕ → Outcome V) (count i : ℕ) (text : List ℕ) → count ≤ i
    → behind (times_at step (count - i) text) ≡ Ok text
unfolding times_at
behind_times-end step count i text le =
    let k : count - i ≡ 0 = omega arith in
    rw k refl

pub ruleset skipped_changes = (behind_times-some, behind_times-err, behind_times-end)

-- ---- to the end of the text

-- the values end with the text
abbrev pub EndsThere : {V : Type 0} → Outcome (List V) → Type 0
EndsThere r = r ≡ Ok (value_or [] r, [])

pub ends_there : {V : Type 0} (r : Outcome (List V)) → behind r ≡ Ok [] → EndsThere r
ends_there (Ok (vs, [])) e = refl
ends_there (Ok (vs, c ∷ cs)) e = absurd (cc)
ends_there (Err left) e = absurd (cc)

-- ---- one at a time

pub no_values : {V : Type 0} (step : List ℕ → Outcome V) (n : ℕ) (text : List ℕ) → n ≡ 0 → value_or [] (times_at step n text) ≡ []
unfolding times_at
no_values step n text none = rw none refl

one_step : {V : Type 0} (step : List ℕ → Outcome V) (n : ℕ) (text : List ℕ) (v : V) (after : List ℕ) → step text ≡ Ok (v, after)
    → times_at step (suc n) text ≡ and_then (times_at step n after) (λ y. Ok (v ∷ y.0, y.1))
unfolding times_at
one_step step n text v after e = rw e refl

no_step : {V : Type 0} (step : List ℕ → Outcome V) (n : ℕ) (text : List ℕ) (left : ℕ) → step text ≡ Err left → times_at step (suc n) text ≡ Err left
unfolding times_at
no_step step n text left e = rw e refl

-- the others end with the text too, and stand behind the first one
pub record IsFirst {V : Type 0} (step : List ℕ → Outcome V) (n : ℕ) (text : List ℕ) (v : V) (after : List ℕ) : Type 0 where
  pub ends : EndsThere (times_at step (n - 1) after)
  pub values : value_or [] (times_at step n text) ≡ v ∷ value_or [] (times_at step (n - 1) after)

pub first_value : {V : Type 0} (step : List ℕ → Outcome V) (n : ℕ) (text : List ℕ) (v : V) (after : List ℕ) → (n ≡ 0 → ⊥) → step text ≡ Ok (v, after)
    → EndsThere (times_at step n text) → IsFirst step n text v after
first_value {V} step n text v after some e ends =
    let k : n ≡ suc (n - 1) = omega arith in
    let all : times_at step n text ≡ and_then (times_at step (n - 1) after) (λ y. Ok (v ∷ y.0, y.1)) = ap (λ (m : ℕ). times_at step m text) k ∙ one_step step (n - 1) text v after e in
    let parts = split (times_at step (n - 1) after) (times_at step n text) all ends in
    record { ends = parts.0; values = parts.1 }
  where
    split : (r whole : Outcome (List V)) → whole ≡ and_then r (λ y. Ok (v ∷ y.0, y.1)) → EndsThere whole → EndsThere r × (value_or [] whole ≡ v ∷ value_or [] r)
    split (Ok (vs, [])) whole is ends = (refl, ap (value_or []) is)
    split (Ok (vs, c ∷ cs)) whole is ends = absurd (let two : behind (Ok (value_or [] whole, [])) ≡ behind (Ok (v ∷ vs, c ∷ cs)) = ap behind (sym ends ∙ is) in cc)
    split (Err left) whole is ends = absurd (let two : Ok (value_or [] whole, []) ≡ Err left = sym ends ∙ is in cc)

pub no_fault : {V : Type 0} (step : List ℕ → Outcome V) (n : ℕ) (text : List ℕ) (left : ℕ) → (n ≡ 0 → ⊥) → step text ≡ Err left → EndsThere (times_at step n text) → ⊥
no_fault step n text left some e ends =
    let k : n ≡ suc (n - 1) = omega arith in
    let all : times_at step n text ≡ Err left = ap (λ (m : ℕ). times_at step m text) k ∙ no_step step (n - 1) text left e in
    let two : behind (Ok (value_or [] (times_at step n text), [])) ≡ Err left = ap behind (sym ends ∙ all) in
    absurd (cc)

-- ---- how many

times_length : {V : Type 0} (step : List ℕ → Outcome V) (n : ℕ) (text : List ℕ) (vs : List V) (rest : List ℕ) → times_at step n text ≡ Ok (vs, rest) → length vs ≡ n
unfolding times_at
times_length step zero text vs rest e = omega (arith, ap length (ap (value_or []) e))
times_length {V} step (suc n) text vs rest e = by_first (λ after ws left is. times_length step n after ws left is) (step text) e
  where
    by_rest : (v : V) (after : List ℕ) → ((ws : List V) (left : List ℕ) → times_at step n after ≡ Ok (ws, left) → length ws ≡ n)
        → (r : Outcome (List V)) → times_at step n after ≡ r → and_then r (λ y. Ok (v ∷ y.0, y.1)) ≡ Ok (vs, rest) → length vs ≡ suc n
    by_rest v after others (Err left) is e = absurd (cc)
    by_rest v after others (Ok (ws, left)) is e = omega (arith, ap length (ap (value_or []) e), others ws left is)

    by_first : ((after : List ℕ) (ws : List V) (left : List ℕ) → times_at step n after ≡ Ok (ws, left) → length ws ≡ n)
        → (o : Outcome V) → and_then o (λ first. and_then (times_at step n first.1) (λ y. Ok (first.0 ∷ y.0, y.1))) ≡ Ok (vs, rest) → length vs ≡ suc n
    by_first others (Err left) e = absurd (cc)
    by_first others (Ok (v, after)) e = by_rest v after (others after) (times_at step n after) refl e

pub value_count : {V : Type 0} (step : List ℕ → Outcome V) (n : ℕ) (text : List ℕ) → EndsThere (times_at step n text) → length (value_or [] (times_at step n text)) ≡ n
value_count step n text ends = times_length step n text (value_or [] (times_at step n text)) [] ends
