-- Readers of exactly so many bytes are exact.
use Rattle.std.proofs.Common.{◌≡◌, ℕ, zero, suc, ◌-◌, ◌<◌, ◌≤◌, Bool, true, false, cond, List, [], ◌∷◌, ◌++◌, length, replicate, Ok, Err, refl, sym, ap, subst, ◌∙◌, arith, nat_lt, length-append}
use Rattle.std.proofs.lemmas.Bool.{ltb-true, ltb-false}
use Rattle.std.proofs.lemmas.List.{length-replicate}
use Rattle.grammar.specs.Grammar.{bytes_within}
use Rattle.grammar.specs.Reading.{Outcome, and_then, next_is, run_at}
use Rattle.grammar.proofs.Exact.{SameHead, next_is-alike, IsExact, Anything}
use Rattle.grammar.proofs.Parts.{Every, Every-middle, run_at-run, alike, shorter, longer, cut_of}
use Rattle.txn_codec.specs.PiecesReading.{exactly_at}

pub Every-append : (p : ℕ → Bool) (xs ys : List ℕ) → Every p xs → Every p ys → Every p (xs ++ ys)
Every-append p [] ys a b = b
Every-append p (x ∷ xs) ys a b = (a.0, Every-append p xs ys a.1 b)

pub Every-replicate : (p : ℕ → Bool) (n c : ℕ) → p c ≡ true → Every p (replicate n c)
Every-replicate p zero c e = tt
Every-replicate p (suc n) c e = (e, Every-replicate p n c e)

-- filled up to n bytes
abbrev pub filled : ℕ → ℕ → List ℕ → List ℕ
filled n c front = front ++ replicate (n - length front) c

pub length-filled : (n c : ℕ) (front : List ℕ) → length front ≤ n → length (filled n c front) ≡ n
length-filled n c front le = omega (arith, length-append front (replicate (n - length front) c), length-replicate (n - length front) c)

-- a longer text of such bytes does not share a run's front and the place behind it
pub too_long : (p : ℕ → Bool) (front rest t k x : List ℕ) → Every p t → length front < length t → next_is p rest ≡ false → t ++ k ≡ front ++ x → SameHead rest x → ⊥
too_long p front rest t k x each lt stops cut head = elim (cut_of t k front x cut) [
  | alike a b ↦ absurd (omega (arith, ap (λ (l : List ℕ). length l) a))
  | shorter c m a b ↦ absurd (omega (arith, ap (λ (l : List ℕ). length l) a, length-append t (c ∷ m)))
  | longer c m a b ↦
      let yes : p c ≡ true = Every-middle p front c m (subst (λ (l : List ℕ). Every p l) a each) in
      let no : p c ≡ false = sym (ap (next_is p) b) ∙ sym (next_is-alike p rest x head) ∙ stops in
      absurd (cc)
]

-- two fronts of one text that are as long
pub same_front : (t k front x : List ℕ) → t ++ k ≡ front ++ x → length t ≡ length front → t ≡ front
same_front t k front x cut same = elim (cut_of t k front x cut) [
  | alike a b ↦ a
  | shorter c m a b ↦ absurd (omega (arith, ap (λ (l : List ℕ). length l) a, length-append t (c ∷ m)))
  | longer c m a b ↦ absurd (omega (arith, ap (λ (l : List ℕ). length l) a, length-append front (c ∷ m)))
]

exactly_once : (p : ℕ → Bool) (n c : ℕ) (text : List ℕ) (b : Bool) → p c ≡ true → nat_lt (length (run_at p n text).0) n ≡ b
    → IsExact (bytes_within p n n) Anything text (cond b (Err (length (run_at p n text).1)) (Ok (run_at p n text)))
exactly_once p n c text true sample test =
    let r = run_at-run p n text in
    let lt : length (run_at p n text).0 < n = ltb-true (length (run_at p n text).0) n test in
    record {
      front = (run_at p n text).0;
      rest = (run_at p n text).1;
      left_is = refl;
      parts = r.parts;
      begins = (
        replicate (n - length (run_at p n text).0) c,
        filled n c (run_at p n text).0,
        (
          Every-append p (run_at p n text).0 (replicate (n - length (run_at p n text).0) c) r.each (Every-replicate p (n - length (run_at p n text).0) c sample),
          omega (arith, length-filled n c (run_at p n text).0 r.within),
          omega (arith, length-filled n c (run_at p n text).0 r.within),
          refl,
        ),
      );
      never = λ t w k x s f cut head. too_long p (run_at p n text).0 (run_at p n text).1 t k x s.0 (omega (arith, lt, s.1)) (r.full lt) cut head;
    }
exactly_once p n c text false sample test =
    let r = run_at-run p n text in
    let ge : n ≤ length (run_at p n text).0 = ltb-false (length (run_at p n text).0) n test in
    record {
      front = (run_at p n text).0;
      parts = r.parts;
      fits = (r.each, ge, r.within, refl);
      only = λ t w k x s f cut head.
          let t-is = same_front t k (run_at p n text).0 x cut (omega (arith, ge, r.within, s.1, s.2)) in
          (t-is, s.3 ∙ t-is);
    }

pub exact_exactly : (p : ℕ → Bool) (n c : ℕ) (text : List ℕ) → p c ≡ true → IsExact (bytes_within p n n) Anything text (exactly_at p n text)
unfolding exactly_at
exact_exactly p n c text sample = exactly_once p n c text (nat_lt (length (run_at p n text).0) n) sample refl

pub and_then-cond : {V W : Type 0} (b : Bool) (left : ℕ) (v : V) (rest : List ℕ) (f : V × List ℕ → Outcome W) → and_then (cond b (Err left) (Ok (v, rest))) f ≡ cond b (Err left) (f (v, rest))
and_then-cond true left v rest f = refl
and_then-cond false left v rest f = refl
