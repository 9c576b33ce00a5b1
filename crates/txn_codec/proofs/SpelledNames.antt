-- Readers of numbers, of names behind their lengths and of lists of so many texts are exact.
use Rattle.std.proofs.Common.{◌≡◌, ℕ, zero, suc, ◌+◌, ◌-◌, ◌<◌, ◌≤◌, Bool, true, false, cond, List, [], ◌∷◌, ◌++◌, length, replicate, take, drop, Ok, Err, refl, sym, ap, subst, ◌∙◌, arith, nat_lt, inl, inr, length-append}
use Rattle.std.specs.Prelude.{not, ◌==◌}
use Rattle.std.proofs.lemmas.Bool.Decides.{nat_tests}
use Rattle.std.proofs.lemmas.Bool.{and_parts, ltb-true, ltb-false}
use Rattle.std.proofs.lemmas.List.{length-take, take-append-drop, append-nil}
use Rattle.byteorder.specs.Endian.{big_number}
use Rattle.byteorder.specs.Numbers.{big_from-take}
use Rattle.grammar.specs.Grammar.{Grammar, Sequence, ◌>>=◌, means, many}
use Rattle.grammar.specs.Reading.{Outcome, and_then}
use Rattle.grammar.proofs.Exact.{SameHead, IsExact, Anything, Same, exact_same, exact_then_cut}
use Rattle.grammar.proofs.Rules.{Reads, reads_any, reads_last, reads_same, reads_means}
use Rattle.dl_base.specs.Names.{IsName, name}
use Rattle.dl_base.proofs.NameRules.{name_value, name_of_bare, bare_of}
use Rattle.txn_codec.specs.Pieces.{number, spelled_name, exactly}
use Rattle.txn_codec.specs.PiecesReading.{number_at, is_name_length, name_length_at, name_of_at, spelled_name_at, times_at}
use Rattle.txn_codec.proofs.Runs.{same_front}
use Rattle.txn_codec.proofs.SizedNames.{sized, some_name, exact_name_of, length-parts}

-- ---- numbers

abbrev zeros : ℕ → List ℕ
zeros n = replicate n 0

length-zeros : (n : ℕ) → length (zeros n) ≡ n
length-zeros zero = refl
length-zeros (suc n) = omega (arith, length-zeros n)

number_once : (n : ℕ) (text : List ℕ) (b : Bool) → nat_lt (length text) n ≡ b → IsExact (number n) Anything text (cond b (Err 0) (Ok (big_number n text, drop n text)))
number_once n text true test =
    let lt : length text < n = ltb-true (length text) n test in
    let none : List ℕ = [] in
    let rest : List ℕ = zeros (n - length text) in
    record {
      front = text;
      rest = [];
      left_is = refl;
      parts = sym (append-nil text);
      begins = (rest, big_number n (text ++ rest), (omega (arith, lt, length-append text rest, length-zeros (n - length text)), refl));
      never = λ t w k x s f cut head.
          let x-is : x ≡ [] = ends x head in
          omega (arith, lt, s.0, length-append t k, length-append text x, ap (λ (l : List ℕ). length l) cut, ap (λ (l : List ℕ). length l) x-is);
    }
  where
    ends : (x : List ℕ) → SameHead [] x → x ≡ []
    ends [] h = refl
    ends (d ∷ ds) h = absurd h
number_once n text false test =
    let ge : n ≤ length text = ltb-false (length text) n test in
    let len : length (take n text) ≡ n = omega (arith, ge, length-take n text) in
    record {
      front = take n text;
      parts = sym (take-append-drop n text);
      fits = (len, big_of n text ge);
      only = λ t w k x s f cut head.
          let t-is = same_front t k (take n text) x cut (s.0 ∙ sym len) in
          (t-is, s.1 ∙ ap (λ (a : List ℕ). big_number n a) t-is ∙ sym (big_of n text ge));
    }
  where
    big_of : (n : ℕ) (text : List ℕ) → n ≤ length text → big_number n text ≡ big_number n (take n text)
    big_of n text ge = sym (big_from-take 0 n n text (omega arith))

pub reads_number : {text : List ℕ} (n : ℕ) → Reads (number n) Anything text (number_at n text)
unfolding number_at
reads_number {text} n = record {
  is = number_once n text (nat_lt (length text) n) refl;
  some = record { text = zeros n; value = big_number n (zeros n); is = (length-zeros n, refl) };
}

-- ---- names behind their lengths

abbrev length_byte : Grammar ℕ
length_byte text value = (text ≡ value ∷ []) × (is_name_length value ≡ true)

length_once : (c : ℕ) (cs : List ℕ) (b : Bool) → is_name_length c ≡ b → IsExact length_byte Anything (c ∷ cs) (cond b (Ok (c, cs)) (Err (length (c ∷ cs))))
length_once c cs true e = record {
  front = c ∷ [];
  parts = refl;
  fits = (refl, e);
  only = λ t w k x s f cut head. let same : w ∷ k ≡ c ∷ x = ap (λ (a : List ℕ). a ++ k) (sym s.0) ∙ cut in let w-is : w ≡ c = cc in (s.0 ∙ ap (λ (a : ℕ). a ∷ []) w-is, w-is);
}
length_once c cs false e = record {
  front = [];
  rest = c ∷ cs;
  left_is = refl;
  parts = refl;
  begins = (1 ∷ [], 1, (refl, refl));
  never = λ t w k x s f cut head.
      let same : w ∷ k ≡ x = ap (λ (a : List ℕ). a ++ k) (sym s.0) ∙ cut in
      let c-is : c ≡ w = subst (λ (a : List ℕ). SameHead (c ∷ cs) a) (sym same) head in
      let yes : is_name_length c ≡ true = ap is_name_length c-is ∙ s.1 in
      absurd (cc);
}

exact_length : (text : List ℕ) → IsExact length_byte Anything text (name_length_at text)
unfolding name_length_at
exact_length [] = record {
  front = [];
  rest = [];
  left_is = refl;
  parts = refl;
  begins = (1 ∷ [], 1, (refl, refl));
  never = λ t w k x s f cut head.
      let same : w ∷ k ≡ x = ap (λ (a : List ℕ). a ++ k) (sym s.0) ∙ cut in
      subst (λ (a : List ℕ). SameHead [] a) (sym same) head;
}
exact_length (c ∷ cs) = length_once c cs (is_name_length c) refl

bounds_of : (n : ℕ) → is_name_length n ≡ true → (1 ≤ n) × (n ≤ 255)
bounds_of zero e = absurd (cc)
bounds_of (suc m) e =
    let both = and_parts (not (suc m == 0)) (nat_lt (suc m) 256) e in
    let lt : suc m < 256 = ltb-true (suc m) 256 both.1 in
    (omega arith, omega (arith, lt))

length_of : (n : ℕ) → 1 ≤ n → n ≤ 255 → is_name_length n ≡ true
length_of n pos le = grind (arith, nat_tests)

pub name_len : (t v : List ℕ) → name t v → (1 ≤ length t) × (length t ≤ 255)
name_len [] v (inl b) = absurd b.0.0
name_len (c ∷ cs) v (inl b) = (omega arith, b.1)
name_len t v (inr s) =
    let b = s.in_second in
    let d = b.in_second in
    let len : length t ≡ length b.front + 2 = omega (arith, length-parts s.front s.back t s.parts, length-parts b.front b.back s.back b.parts, length-parts d.front d.back b.back d.parts, ap (λ (l : List ℕ). length l) s.in_first, ap (λ (l : List ℕ). length l) d.in_first, ap (λ (l : List ℕ). length l) d.in_second.0) in
    (omega arith, omega (arith, b.in_first.2))

same_spelled : Same (length_byte >>= λ n. sized n name) spelled_name
same_spelled = record {
  to = λ t v s.
      let value : v ≡ s.back = name_value s.back v s.in_second.0 in
      let whole : t ≡ s.met ∷ s.back = s.parts ∙ ap (λ (a : List ℕ). a ++ s.back) s.in_first.0 in
      let len : s.met ≡ length v = sym (s.in_second.1) ∙ ap (λ (a : List ℕ). length a) (sym value) in
      (whole ∙ ap (λ (n : ℕ). n ∷ s.back) len ∙ ap (λ (a : List ℕ). length v ∷ a) (sym value), subst (λ (a : List ℕ). IsName a) (sym value) (v, s.in_second.0));
  back = λ t v s.
      let value : s.1.0 ≡ v = name_value v s.1.0 s.1.1 in
      let is : name v v = subst (λ (a : List ℕ). name v a) value s.1.1 in
      let within = name_len v v is in
      record { front = length v ∷ []; back = v; met = length v; parts = s.0; in_first = (refl, length_of (length v) within.0 within.1); in_second = (is, refl) };
}

pub reads_spelled_name : {text : List ℕ} → Reads spelled_name Anything text (spelled_name_at text)
unfolding spelled_name_at
reads_spelled_name {text} = record {
  is = exact_same (length_byte >>= λ n. sized n name) spelled_name Anything text (and_then (name_length_at text) (λ n. name_of_at n.0 n.1)) same_spelled
      (exact_then_cut length_byte (λ n. sized n name) Anything Anything text (name_length_at text) (λ n. name_of_at n.0 n.1) (exact_length text)
      (λ n rest front cut g. let b = bounds_of n g.1 in exact_name_of n rest b.0 b.1)
      (λ t n g. let b = bounds_of n g.1 in let h = some_name n b.0 b.1 in (h.text, h.value, h.is))
      (λ n t w k s f. tt));
  some = record { text = 1 ∷ 97 ∷ []; value = 97 ∷ []; is = (refl, name_of_bare 255 (97 ∷ []) (omega arith) (bare_of (97 ∷ []) (refl, tt) refl) (omega arith)) };
}

pub spelled_is_name : (text w rest : List ℕ) → spelled_name_at text ≡ Ok (w, rest) → IsName w
spelled_is_name text w rest e =
    let d : IsExact spelled_name Anything text (Ok (w, rest)) = subst (λ (o : Outcome (List ℕ)). IsExact spelled_name Anything text o) e (reads_spelled_name {text = text}).is in
    d.fits.1

-- ---- so many texts

pub same_none : {V : Type 0} {g : Grammar V} → Same (means []) (exactly 0 g)
same_none {V} {g} = record {
  to = λ t vs s. subst (λ (l : List V). exactly 0 g t l) (sym s.1) (s.0, omega arith, omega arith);
  back = λ t vs s. empty t vs s.0 s.2;
}
  where
    empty : (t : List ℕ) (vs : List V) → many g t vs → length vs ≤ 0 → means [] t vs
    empty t [] m le = (m, refl)
    empty t (v ∷ vs) m le = absurd (omega (arith, le))

one_more : {V : Type 0} (g : Grammar V) (n : ℕ) (t : List ℕ) (ws : List V) → many g t ws → suc n ≤ length ws → length ws ≤ suc n → Sequence g (λ v. exactly n g >>= λ vs. means (v ∷ vs)) t ws
one_more g n t [] m least most = absurd (omega (arith, least))
one_more g n t (v ∷ vs) m least most = record {
  front = m.0;
  back = m.1;
  met = v;
  parts = m.2;
  in_first = m.3;
  in_second = record { front = m.1; back = []; met = vs; parts = sym (append-nil m.1); in_first = (m.4, omega (arith, least), omega (arith, most)); in_second = (refl, refl) };
}

pub same_some : {V : Type 0} {g : Grammar V} (n : ℕ) → Same (g >>= λ v. exactly n g >>= λ vs. means (v ∷ vs)) (exactly (suc n) g)
same_some {V} {g} n = record {
  to = λ t ws s.
      let q = s.in_second in
      let back-is : s.back ≡ q.front = q.parts ∙ ap (λ (a : List ℕ). q.front ++ a) q.in_second.0 ∙ append-nil q.front in
      subst (λ (l : List V). exactly (suc n) g t l) (sym q.in_second.1)
      ((s.front, q.front, s.parts ∙ ap (λ (a : List ℕ). s.front ++ a) back-is, s.in_first, q.in_first.0), omega (arith, q.in_first.1), omega (arith, q.in_first.2));
  back = λ t ws s. one_more g n t ws s.0 s.1 s.2;
}

pub reads_times : {V : Type 0} {g : Grammar V} {step : List ℕ → Outcome V} (n : ℕ) (text : List ℕ) → ((text : List ℕ) → Reads g Anything text (step text)) → Reads (exactly n g) Anything text (times_at step n text)
unfolding times_at
reads_times zero text each = reads_same same_none reads_means
reads_times (suc n) text each =
    reads_same (same_some n)
    (reads_any _ (each text) (λ v rest.
    reads_last (reads_times n rest each) (λ vs k f. tt)))
