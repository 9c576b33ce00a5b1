-- Readers of an expected text and of bytes of a kind are exact.
use Rattle.std.proofs.Common.{◌≡◌, ℕ, zero, suc, ◌<◌, ◌≤◌, Bool, true, false, cond, eqb, List, [], ◌∷◌, ◌++◌, length, take, drop, Ok, Err, refl, sym, ap, subst, ◌∙◌, arith, inl, inr}
use Rattle.std.specs.Prelude.{IsTrue}
use Rattle.std.specs.List.{AllByRecursion}
use Rattle.std.proofs.lemmas.Bool.{eqb-true, eqb-false, cases_lt}
use Rattle.std.proofs.lemmas.List.{length-append, length-take, drop_all}
use Rattle.grammar.specs.Grammar.{literal, bytes_of_kind, some_bytes_of, bytes_within}
use Rattle.grammar.specs.Reading.{Outcome, next_is, run_len, run_at, some_at, expect_at}
use Rattle.grammar.proofs.Exact.{SameHead, next_is-alike, Follow, IsExact}

-- ---- an expected text

expect_more : (c : ℕ) (es cs : List ℕ) (F : Follow (Unit {0})) (r : Outcome (Unit {0})) → IsExact (literal es) F cs r → IsExact (literal (c ∷ es)) F (c ∷ cs) r
expect_more c es cs F (Ok y) e = record {
  front = c ∷ e.front;
  parts = ap (λ (a : List ℕ). c ∷ a) e.parts;
  fits = ap (λ (a : List ℕ). c ∷ a) e.fits;
  only = λ t w k x s f same head. (s ∙ ap (λ (a : List ℕ). c ∷ a) (sym e.fits), refl);
}
expect_more c es cs F (Err left) e = record {
  front = c ∷ e.front;
  rest = e.rest;
  left_is = e.left_is;
  parts = ap (λ (a : List ℕ). c ∷ a) e.parts;
  begins = (e.begins.0, e.begins.1, ap (λ (a : List ℕ). c ∷ a) e.begins.2);
  never = λ t w k x s f same head.
      let whole : c ∷ (es ++ k) ≡ c ∷ (e.front ++ x) = ap (λ (a : List ℕ). a ++ k) (sym s) ∙ same in
      e.never es w k x refl f (cc) head;
}

expect_at_once : (b : Bool) (c e : ℕ) (es cs : List ℕ) (F : Follow (Unit {0})) → eqb c e ≡ b → IsExact (literal es) F cs (expect_at es cs)
    → IsExact (literal (e ∷ es)) F (c ∷ cs) (cond b (expect_at es cs) (Err (length (c ∷ cs))))
expect_at_once true c e es cs F test more =
    subst (λ (d : ℕ). IsExact (literal (d ∷ es)) F (c ∷ cs) (expect_at es cs)) (eqb-true c e test) (expect_more c es cs F (expect_at es cs) more)
expect_at_once false c e es cs F test more = record {
  front = [];
  rest = c ∷ cs;
  left_is = refl;
  parts = refl;
  begins = (e ∷ es, tt, refl);
  never = λ t w k x s f same head.
      let x-is : e ∷ (es ++ k) ≡ x = ap (λ (a : List ℕ). a ++ k) (sym s) ∙ same in
      eqb-false c e test (subst (λ (a : List ℕ). SameHead (c ∷ cs) a) (sym x-is) head);
}

pub exact_literal : (es : List ℕ) (F : Follow (Unit {0})) (text : List ℕ) → IsExact (literal es) F text (expect_at es text)
exact_literal [] F text = record { front = []; parts = refl; fits = refl; only = λ t w k x s f same head. (s, refl) }
exact_literal (e ∷ es) F [] = record {
  front = [];
  rest = [];
  left_is = refl;
  parts = refl;
  begins = (e ∷ es, tt, refl);
  never = λ t w k x s f same head.
      let x-is : e ∷ (es ++ k) ≡ x = ap (λ (a : List ℕ). a ++ k) (sym s) ∙ same in
      subst (λ (a : List ℕ). SameHead [] a) (sym x-is) head;
}
exact_literal (e ∷ es) F (c ∷ cs) = expect_at_once (eqb c e) c e es cs F refl (exact_literal es F cs)

-- ---- bytes of a kind

abbrev pub Every : (ℕ → Bool) → List ℕ → Type 0
Every p xs = AllByRecursion (λ c. IsTrue (p c)) xs

pub Every-middle : (p : ℕ → Bool) (a : List ℕ) (c : ℕ) (m : List ℕ) → Every p (a ++ c ∷ m) → IsTrue (p c)
Every-middle p [] c m h = h.0
Every-middle p (d ∷ a) c m h = Every-middle p a c m h.1

-- the bytes of a kind at the front are such bytes, and where fewer than the limit are there, another kind follows
pub record IsRun (p : ℕ → Bool) (most : ℕ) (text front rest : List ℕ) : Type 0 where
  pub parts : text ≡ front ++ rest
  pub each : Every p front
  pub within : length front ≤ most
  pub full : length front < most → next_is p rest ≡ false

run_step : (p : ℕ → Bool) (n c : ℕ) (cs : List ℕ) (b : Bool) → p c ≡ b → IsRun p n cs (take (run_len p n cs) cs) (drop (run_len p n cs) cs)
    → IsRun p (suc n) (c ∷ cs) (take (cond b (suc (run_len p n cs)) 0) (c ∷ cs)) (drop (cond b (suc (run_len p n cs)) 0) (c ∷ cs))
run_step p n c cs true test r = record {
  parts = ap (λ (a : List ℕ). c ∷ a) r.parts;
  each = (test, r.each);
  within = omega (arith, r.within);
  full = λ lt. r.full (omega (arith, lt));
}
run_step p n c cs false test r = record { parts = refl; each = tt; within = omega arith; full = λ lt. test }

pub run_at-run : (p : ℕ → Bool) (most : ℕ) (text : List ℕ) → IsRun p most text (run_at p most text).0 (run_at p most text).1
run_at-run p zero text = record { parts = refl; each = tt; within = omega arith; full = λ lt. absurd (omega (arith, lt)) }
run_at-run p (suc n) [] = record { parts = refl; each = tt; within = omega arith; full = λ lt. refl }
run_at-run p (suc n) (c ∷ cs) = run_step p n c cs (p c) refl (run_at-run p n cs)

-- two ways of cutting one text
pub data Cut (t k front x : List ℕ) : Type 0 where
  alike : t ≡ front → k ≡ x → Cut t k front x
  shorter : (c : ℕ) (m : List ℕ) → front ≡ t ++ c ∷ m → k ≡ c ∷ (m ++ x) → Cut t k front x
  longer : (c : ℕ) (m : List ℕ) → t ≡ front ++ c ∷ m → x ≡ c ∷ (m ++ k) → Cut t k front x

cut_more : (c d : ℕ) (t k front x : List ℕ) → c ≡ d → Cut t k front x → Cut (c ∷ t) k (d ∷ front) x
cut_more c d t k front x e (alike p q) = alike (cc) q
cut_more c d t k front x e (shorter b m p q) = shorter b m (cc) q
cut_more c d t k front x e (longer b m p q) = longer b m (cc) q

pub cut_of : (t k front x : List ℕ) → t ++ k ≡ front ++ x → Cut t k front x
cut_of [] k [] x e = alike refl e
cut_of [] k (d ∷ front) x e = shorter d front refl e
cut_of (c ∷ t) k [] x e = longer c t refl (sym e)
cut_of (c ∷ t) k (d ∷ front) x e =
    let heads : c ≡ d = cc in
    let tails : t ++ k ≡ front ++ x = cc in
    cut_more c d t k front x heads (cut_of t k front x tails)

-- a text of bytes of the kind that shares a run's front and the place behind it is that front
pub run_only : (p : ℕ → Bool) (front rest t k x : List ℕ) → Every p front → Every p t → (length front < length t → next_is p rest ≡ false)
    → next_is p k ≡ false → t ++ k ≡ front ++ x → SameHead rest x → t ≡ front
run_only p front rest t k x each each' full stops cut head = elim (cut_of t k front x cut) [
  | alike a b ↦ a
  | shorter c m a b ↦
      let yes : p c ≡ true = Every-middle p t c m (subst (λ (l : List ℕ). Every p l) a each) in
      let no : p c ≡ false = sym (ap (next_is p) b) ∙ stops in
      absurd (cc)
  | longer c m a b ↦
      let yes : p c ≡ true = Every-middle p front c m (subst (λ (l : List ℕ). Every p l) a each') in
      let fewer : length front < length t = omega (arith, ap (λ (l : List ℕ). length l) a, length-append front (c ∷ m)) in
      let no : p c ≡ false = sym (ap (next_is p) b) ∙ sym (next_is-alike p rest x head) ∙ full fewer in
      absurd (cc)
]

-- such a byte may not follow
abbrev pub Stops : {V : Type 0} → (ℕ → Bool) → Follow V
Stops p v k = next_is p k ≡ false

-- any number of them
run_to_end : (p : ℕ → Bool) (text : List ℕ) → next_is p (run_at p (length text) text).1 ≡ false
run_to_end p text =
    let r = run_at-run p (length text) text in
    elim (cases_lt (run_len p (length text) text) (length text)) [
      | inl lt ↦ r.full (omega (arith, lt, length-take (run_len p (length text) text) text))
      | inr le ↦ ap (next_is p) (drop_all (run_len p (length text) text) text le)
    ]

pub exact_bytes_of : (p : ℕ → Bool) (text : List ℕ) → IsExact (bytes_of_kind p) (Stops p) text (Ok (run_at p (length text) text))
exact_bytes_of p text =
    let r = run_at-run p (length text) text in
    record {
      front = (run_at p (length text) text).0;
      parts = r.parts;
      fits = (r.each, refl);
      only = λ t w k x s f same head.
          let t-is = run_only p (run_at p (length text) text).0 (run_at p (length text) text).1 t k x r.each s.0 (λ lt. run_to_end p text) f same head in
          (t-is, s.1 ∙ t-is);
    }

-- one or more of them, within a limit
some_once : (p : ℕ → Bool) (most c : ℕ) (cs : List ℕ) → 0 < most → p c ≡ true → IsExact (bytes_within p 1 most) (Stops p) (c ∷ cs) (Ok (run_at p most (c ∷ cs)))
some_once p most c cs pos test =
    let r = run_at-run p most (c ∷ cs) in
    let one : 1 ≤ length (run_at p most (c ∷ cs)).0 = some_len p most c cs pos test in
    record {
      front = (run_at p most (c ∷ cs)).0;
      parts = r.parts;
      fits = (r.each, one, r.within, refl);
      only = λ t w k x s f same head.
          let t-is = run_only p (run_at p most (c ∷ cs)).0 (run_at p most (c ∷ cs)).1 t k x r.each s.0 (λ lt. r.full (omega (arith, lt, s.2))) f same head in
          (t-is, s.3 ∙ t-is);
    }
  where
    some_len : (p : ℕ → Bool) (most c : ℕ) (cs : List ℕ) → 0 < most → p c ≡ true → 1 ≤ length (run_at p most (c ∷ cs)).0
    some_len p zero c cs pos test = absurd (omega arith)
    some_len p (suc n) c cs pos test = rw test (omega arith)

some_at_once : (p : ℕ → Bool) (most b : ℕ) (text : List ℕ) (test : Bool) → 0 < most → p b ≡ true → next_is p text ≡ test
    → IsExact (bytes_within p 1 most) (Stops p) text (cond test (Ok (run_at p most text)) (Err (length text)))
some_at_once p most b [] true pos sample here = absurd cc
some_at_once p most b (c ∷ cs) true pos sample here = some_once p most c cs pos here
some_at_once p most b text false pos sample here = record {
  front = [];
  rest = text;
  left_is = refl;
  parts = refl;
  begins = (b ∷ [], b ∷ [], ((sample, tt), omega arith, omega (arith, pos), refl));
  never = λ t w k x s f same head. never_empty p text t k x here s.0 s.1 same head;
}
  where
    never_empty : (p : ℕ → Bool) (text t k x : List ℕ) → next_is p text ≡ false → Every p t → 1 ≤ length t → t ++ k ≡ x → SameHead text x → ⊥
    never_empty p text [] k x here each one same head = absurd (omega arith)
    never_empty p text (d ∷ t) k x here each one same head =
        let yes : p d ≡ true = each.0 in
        let no : p d ≡ false = ap (next_is p) same ∙ sym (next_is-alike p text x head) ∙ here in
        absurd (cc)

pub exact_some : (p : ℕ → Bool) (most b : ℕ) (text : List ℕ) → 0 < most → p b ≡ true → IsExact (bytes_within p 1 most) (Stops p) text (some_at p most text)
unfolding some_at
exact_some p most b text pos sample = some_at_once p most b text (next_is p text) pos sample refl

-- one or more of them
all_once : (p : ℕ → Bool) (b : ℕ) (text : List ℕ) (test : Bool) → p b ≡ true → next_is p text ≡ test
    → IsExact (some_bytes_of p) (Stops p) text (cond test (Ok (run_at p (length text) text)) (Err (length text)))
all_once p b [] true sample here = absurd cc
all_once p b (c ∷ cs) true sample here =
    let r = run_at-run p (length (c ∷ cs)) (c ∷ cs) in
    record {
      front = (run_at p (length (c ∷ cs)) (c ∷ cs)).0;
      parts = r.parts;
      fits = (r.each, at_least_one p c cs here, refl);
      only = λ t w k x s f cut head.
          let t-is = run_only p (run_at p (length (c ∷ cs)) (c ∷ cs)).0 (run_at p (length (c ∷ cs)) (c ∷ cs)).1 t k x r.each s.0 (λ lt. run_to_end p (c ∷ cs)) f cut head in
          (t-is, s.2 ∙ t-is);
    }
  where
    at_least_one : (p : ℕ → Bool) (c : ℕ) (cs : List ℕ) → p c ≡ true → 1 ≤ length (run_at p (length (c ∷ cs)) (c ∷ cs)).0
    at_least_one p c cs test = rw test (omega arith)
all_once p b text false sample here = record {
  front = [];
  rest = text;
  left_is = refl;
  parts = refl;
  begins = (b ∷ [], b ∷ [], ((sample, tt), omega arith, refl));
  never = λ t w k x s f cut head. none_here t k x s.0 s.1 cut head;
}
  where
    none_here : (t k x : List ℕ) → Every p t → 1 ≤ length t → t ++ k ≡ x → SameHead text x → ⊥
    none_here [] k x each one cut head = absurd (omega arith)
    none_here (d ∷ t) k x each one cut head =
        let yes : p d ≡ true = each.0 in
        let also : p d ≡ false = ap (next_is p) cut ∙ sym (next_is-alike p text x head) ∙ here in
        absurd (cc)

pub exact_some_bytes : (p : ℕ → Bool) (b : ℕ) (text : List ℕ) → p b ≡ true → IsExact (some_bytes_of p) (Stops p) text (cond (next_is p text) (Ok (run_at p (length text) text)) (Err (length text)))
exact_some_bytes p b text sample = all_once p b text (next_is p text) sample refl
