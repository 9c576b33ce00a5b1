-- Readers of names of so many bytes are exact.
use Rattle.std.proofs.Common.{◌≡◌, ℕ, zero, suc, ◌+◌, ◌-◌, ◌<◌, ◌≤◌, Bool, true, false, cond, List, [], ◌∷◌, ◌++◌, length, replicate, take, Ok, Err, refl, sym, ap, subst, ◌∙◌, arith, nat_lt, append_assoc, inl, inr, length-append}
use Rattle.std.specs.Prelude.{codes, not, ◌==◌}
use Rattle.std.proofs.lemmas.Bool.{ltb-true, ltb-false, cases_lt, lt-ltb, le-ltb}
use Rattle.std.proofs.Math.Seq.{take-append_seam}
use Rattle.grammar.specs.Bytes.{starts_name, is_name_byte, is_angled_byte, is_kind}
use Rattle.grammar.specs.Grammar.{Grammar, ◌>>=◌, ◌>>◌, ◌∣◌, means, literal, bytes_within}
use Rattle.grammar.specs.Reading.{Outcome, and_then, next_is, run_at}
use Rattle.grammar.proofs.Exact.{SameHead, IsExact, Anything, Same, exact_same, exact_or}
use Rattle.grammar.proofs.Parts.{Every, Every-middle, IsRun, run_at-run}
use Rattle.grammar.proofs.ByteKinds.{naming_from_starting}
use Rattle.grammar.proofs.Rules.{Reads, HasText, reads_any, reads_literal, reads_means, reads_same}
use Rattle.dl_base.specs.Names.{IsWord, IsReserved, IsBare, bare, angled, name}
use Rattle.dl_base.specs.NameReading.{is_reserved}
use Rattle.dl_base.proofs.NameRules.{name_value, reserved_cases, word_each, bare_of, each_of, run_at-cons, word_never, first_of_word}
use Rattle.txn_codec.specs.PiecesReading.{exactly_at, bare_of_at, angled_of_at, name_of_at}
use Rattle.txn_codec.proofs.Runs.{Every-append, Every-replicate, filled, length-filled, too_long, same_front, exact_exactly, and_then-cond}

-- the texts of a grammar that have so many bytes
abbrev pub sized : ℕ → Grammar (List ℕ) → Grammar (List ℕ)
sized n g text value = g text value × (length text ≡ n)

-- ---- reserved words

-- no reserved word has the byte `0`
abbrev not_zero : ℕ → Bool
not_zero c = not (c == 48)

without_zero : (w : List ℕ) → IsReserved w → Every not_zero w
without_zero w (inl e) = subst (λ (a : List ℕ). Every not_zero a) (sym e) (each_of not_zero (codes "nothing") refl)
without_zero w (inr (inl e)) = subst (λ (a : List ℕ). Every not_zero a) (sym e) (each_of not_zero (codes "And") refl)
without_zero w (inr (inr (inl e))) = subst (λ (a : List ℕ). Every not_zero a) (sym e) (each_of not_zero (codes "Some") refl)
without_zero w (inr (inr (inr e))) = subst (λ (a : List ℕ). Every not_zero a) (sym e) (each_of not_zero (codes "Inv") refl)

filled_free : (front : List ℕ) (m : ℕ) → 0 < m → IsReserved (front ++ replicate m 48) → ⊥
filled_free front zero pos r = absurd (omega arith)
filled_free front (suc j) pos r =
    let bad : false ≡ true = Every-middle not_zero front 48 (replicate j 48) (without_zero (front ++ 48 ∷ replicate j 48) r) in
    absurd (cc)

-- another byte in place of the last one of a reserved word makes a bare name
record Ends (w : List ℕ) : Type 0 where
  init : List ℕ
  last : ℕ
  is : w ≡ init ++ last ∷ []
  other : IsBare (init ++ 48 ∷ [])

ends_of : (w : List ℕ) → IsReserved w → Ends w
ends_of w (inl e) = record { init = codes "nothin"; last = 103; is = e; other = bare_of (codes "nothin0") (refl, each_of is_name_byte (codes "othin0") refl) refl }
ends_of w (inr (inl e)) = record { init = codes "An"; last = 100; is = e; other = bare_of (codes "An0") (refl, each_of is_name_byte (codes "n0") refl) refl }
ends_of w (inr (inr (inl e))) = record { init = codes "Som"; last = 101; is = e; other = bare_of (codes "Som0") (refl, each_of is_name_byte (codes "om0") refl) refl }
ends_of w (inr (inr (inr e))) = record { init = codes "In"; last = 118; is = e; other = bare_of (codes "In0") (refl, each_of is_name_byte (codes "n0") refl) refl }

-- ---- bare names

word_more : (xs ys : List ℕ) → IsWord xs → Every is_name_byte ys → IsWord (xs ++ ys)
word_more [] ys w e = absurd w
word_more (c ∷ cs) ys w e = (w.0, Every-append is_name_byte cs ys w.1 e)

head_is : (c : ℕ) (cs x : List ℕ) → SameHead (c ∷ cs) x → (ds : List ℕ) × (x ≡ c ∷ ds)
head_is c cs [] h = absurd h
head_is c cs (d ∷ ds) h = (ds, ap (λ (a : ℕ). a ∷ ds) (sym h))

bare_by : (n : ℕ) (text front rest : List ℕ) (short reserved : Bool) → n ≤ 255 → IsRun is_name_byte n text front rest → IsWord front
    → nat_lt (length front) n ≡ short → is_reserved front ≡ reserved
    → IsExact (sized n (bare 255)) Anything text (cond short (Err (length rest)) (cond reserved (Err (length rest + 1)) (Ok (front, rest))))
bare_by n text front rest true reserved le r word test kind =
    let lt : length front < n = ltb-true (length front) n test in
    let whole : length (filled n 48 front) ≡ n = length-filled n 48 front r.within in
    record {
      front = front;
      rest = rest;
      left_is = refl;
      parts = r.parts;
      begins = (
        replicate (n - length front) 48,
        filled n 48 front,
        (((word_more front (replicate (n - length front) 48) word (Every-replicate is_name_byte (n - length front) 48 refl), filled_free front (n - length front) (omega arith)), omega arith, refl), whole),
      );
      never = λ t w k x s f cut head. too_long is_name_byte front rest t k x (word_each t s.0.0.0) (omega (arith, lt, s.1)) (r.full lt) cut head;
    }
bare_by n text front rest false true le r word test kind =
    let ge : n ≤ length front = ltb-false (length front) n test in
    let e : IsReserved front = reserved_cases front kind in
    let v = ends_of front e in
    let len : length front ≡ n = omega (arith, ge, r.within) in
    let len' : length (v.init ++ 48 ∷ []) ≡ n = omega (arith, len, length-append v.init (48 ∷ []), length-append v.init (v.last ∷ []), ap (λ (l : List ℕ). length l) v.is) in
    record {
      front = v.init;
      rest = v.last ∷ rest;
      left_is = omega arith;
      parts = r.parts ∙ ap (λ (a : List ℕ). a ++ rest) v.is ∙ append_assoc v.init (v.last ∷ []) rest;
      begins = (48 ∷ [], v.init ++ 48 ∷ [], ((v.other, omega (arith, le, len'), refl), len'));
      never = λ t w k x s f cut head.
          let d = head_is v.last rest x head in
          let whole : t ++ k ≡ front ++ d.0 =
          cut ∙ ap (λ (a : List ℕ). v.init ++ a) d.1 ∙ sym (append_assoc v.init (v.last ∷ []) d.0) ∙ ap (λ (a : List ℕ). a ++ d.0) (sym v.is) in
          let t-is : t ≡ front = same_front t k front d.0 whole (s.1 ∙ sym len) in
          s.0.0.1 (subst (λ (a : List ℕ). IsReserved a) (sym t-is) e);
    }
bare_by n text front rest false false le r word test kind =
    let ge : n ≤ length front = ltb-false (length front) n test in
    let len : length front ≡ n = omega (arith, ge, r.within) in
    record {
      front = front;
      parts = r.parts;
      fits = ((bare_of front word kind, omega (arith, le, len), refl), len);
      only = λ t w k x s f cut head.
          let t-is : t ≡ front = same_front t k front x cut (s.1 ∙ sym len) in
          (t-is, s.0.2 ∙ t-is);
    }

exact_bare_run : (n : ℕ) (text front rest : List ℕ) → n ≤ 255 → run_at is_name_byte n text ≡ (front, rest) → IsWord front
    → IsExact (sized n (bare 255)) Anything text (bare_of_at n text)
unfolding bare_of_at exactly_at is_kind
exact_bare_run n text front rest le is word =
    let r : IsRun is_name_byte n text front rest = subst (λ (a : List ℕ × List ℕ). IsRun is_name_byte n text a.0 a.1) is (run_at-run is_name_byte n text) in
    subst (λ (found : List ℕ × List ℕ). IsExact (sized n (bare 255)) Anything text (and_then (cond (nat_lt (length found.0) n) (Err (length found.1)) (Ok found)) (λ found. cond (is_reserved found.0) (Err (length found.1 + 1)) (Ok found)))) (sym is)
    (subst (λ (o : Outcome (List ℕ)). IsExact (sized n (bare 255)) Anything text o)
    (sym (and_then-cond (nat_lt (length front) n) (length rest) front rest (λ found. cond (is_reserved found.0) (Err (length found.1 + 1)) (Ok found))))
    (bare_by n text front rest (nat_lt (length front) n) (is_reserved front) le r word refl refl))

exact_bare : (n c : ℕ) (cs : List ℕ) → 1 ≤ n → n ≤ 255 → starts_name c ≡ true → IsExact (sized n (bare 255)) Anything (c ∷ cs) (bare_of_at n (c ∷ cs))
exact_bare zero c cs pos le start = absurd (omega arith)
exact_bare (suc m) c cs pos le start =
    exact_bare_run (suc m) (c ∷ cs) (c ∷ (run_at is_name_byte m cs).0) (run_at is_name_byte m cs).1 le
    (run_at-cons is_name_byte m c cs (naming_from_starting c start)) (start, (run_each m cs))
  where
    run_each : (m : ℕ) (cs : List ℕ) → Every is_name_byte (run_at is_name_byte m cs).0
    run_each m cs = (run_at-run is_name_byte m cs).each

one_byte : IsBare (97 ∷ [])
one_byte = bare_of (97 ∷ []) (refl, tt) refl

sample_free : (m : ℕ) → IsReserved ((97 ∷ []) ++ replicate m 48) → ⊥
sample_free zero r = one_byte.1 r
sample_free (suc m) r = filled_free (97 ∷ []) (suc m) (omega arith) r

sample : (n : ℕ) → 1 ≤ n → n ≤ 255 → sized n (bare 255) (filled n 48 (97 ∷ [])) (filled n 48 (97 ∷ []))
sample n pos le =
    let whole : length (filled n 48 (97 ∷ [])) ≡ n = length-filled n 48 (97 ∷ []) (omega arith) in
    (((word_more (97 ∷ []) (replicate (n - 1) 48) (refl, tt) (Every-replicate is_name_byte (n - 1) 48 refl), sample_free (n - 1)), omega (arith, whole, le), refl), whole)

-- there is a name of each length
pub some_name : (n : ℕ) → 1 ≤ n → n ≤ 255 → HasText (sized n name)
some_name n pos le = let s = sample n pos le in record { text = filled n 48 (97 ∷ []); value = filled n 48 (97 ∷ []); is = (inl s.0, s.1) }

-- where the text begins with no letter, it begins no bare name
bare_first : (n : ℕ) (text : List ℕ) (test : Bool) → 1 ≤ n → n ≤ 255 → next_is starts_name text ≡ test
    → IsExact (sized n (bare 255)) Anything text (cond test (bare_of_at n text) (Err (length text)))
bare_first n [] true pos le e = absurd cc
bare_first n (c ∷ cs) true pos le e = exact_bare n c cs pos le e
bare_first n text false pos le e = record {
  front = [];
  rest = text;
  left_is = refl;
  parts = refl;
  begins = (filled n 48 (97 ∷ []), filled n 48 (97 ∷ []), sample n pos le);
  never = λ t w k x s f cut head. word_never text t k x e s.0.0.0 cut head;
}

-- ---- angled names

abbrev angled_of : ℕ → Grammar (List ℕ)
angled_of n = literal (codes "<") >> (bytes_within is_angled_byte (n - 2) (n - 2) >>= λ inner. literal (codes ">") >> means (codes "<" ++ inner ++ codes ">"))

pub length-parts : (a b c : List ℕ) → c ≡ a ++ b → length c ≡ length a + length b
length-parts a b c e = ap (λ (l : List ℕ). length l) e ∙ length-append a b

same_angled : (n : ℕ) → 3 ≤ n → n ≤ 255 → Same (angled_of n) (sized n angled)
same_angled n least le = record {
  to = λ t v s.
      let b = s.in_second in
      let d = b.in_second in (
        record { front = s.front; back = s.back; met = s.met; parts = s.parts; in_first = s.in_first; in_second = record { front = b.front; back = b.back; met = b.met; parts = b.parts; in_first = (b.in_first.0, omega (arith, least, b.in_first.1), omega (arith, le, b.in_first.2), b.in_first.3); in_second = d } },
        omega (arith, least, b.in_first.1, b.in_first.2, length-parts s.front s.back t s.parts, length-parts b.front b.back s.back b.parts, length-parts d.front d.back b.back d.parts, ap (λ (l : List ℕ). length l) s.in_first, ap (λ (l : List ℕ). length l) d.in_first, ap (λ (l : List ℕ). length l) d.in_second.0),
      );
  back = λ t v q.
      let s = q.0 in
      let b = s.in_second in
      let d = b.in_second in
      let inner : length b.front ≡ n - 2 = omega (arith, q.1, length-parts s.front s.back t s.parts, length-parts b.front b.back s.back b.parts, length-parts d.front d.back b.back d.parts, ap (λ (l : List ℕ). length l) s.in_first, ap (λ (l : List ℕ). length l) d.in_first, ap (λ (l : List ℕ). length l) d.in_second.0) in
      record { front = s.front; back = s.back; met = s.met; parts = s.parts; in_first = s.in_first; in_second = record { front = b.front; back = b.back; met = b.met; parts = b.parts; in_first = (b.in_first.0, omega (arith, inner), omega (arith, inner), b.in_first.3); in_second = d } };
}

abbrev letters : ℕ → List ℕ
letters n = replicate n 65

length-letters : (n : ℕ) → length (letters n) ≡ n
length-letters zero = refl
length-letters (suc n) = omega (arith, length-letters n)

reads_inner : (n : ℕ) (rest : List ℕ) → Reads (bytes_within is_angled_byte (n - 2) (n - 2)) Anything rest (exactly_at is_angled_byte (n - 2) rest)
reads_inner n rest = record {
  is = exact_exactly is_angled_byte (n - 2) 65 rest refl;
  some = record { text = letters (n - 2); value = letters (n - 2); is = (Every-replicate is_angled_byte (n - 2) 65 refl, omega (arith, length-letters (n - 2)), omega (arith, length-letters (n - 2)), refl) };
}

reads_angled : {text : List ℕ} (n : ℕ) → 3 ≤ n → n ≤ 255 → Reads (sized n angled) Anything text (angled_of_at n text)
unfolding angled_of_at is_kind
reads_angled {text} n least le =
    rw (le-ltb n 3 least)
    (reads_same (same_angled n least le)
    (reads_any _ reads_literal (λ _ rest.
    reads_any _ (reads_inner n rest) (λ inner rest.
    reads_any _ reads_literal (λ _ rest.
    reads_means)))))

-- ---- names

no_angled : (n : ℕ) (t v : List ℕ) → n < 3 → sized n angled t v → ⊥
no_angled n t v lt q =
    let s = q.0 in
    let b = s.in_second in
    let d = b.in_second in
    omega (arith, q.1, lt, b.in_first.1, length-parts s.front s.back t s.parts, length-parts b.front b.back s.back b.parts, length-parts d.front d.back b.back d.parts, ap (λ (l : List ℕ). length l) s.in_first, ap (λ (l : List ℕ). length l) d.in_first)

same_small : (n : ℕ) → n < 3 → Same (sized n (bare 255)) (sized n name)
same_small n lt = record { to = λ t v s. (inl s.0, s.1); back = λ t v s. elim (s.0) [ inl b ↦ (b, s.1) | inr a ↦ absurd (no_angled n t v lt (a, s.1)) ] }

same_name : (n : ℕ) → Same (sized n (bare 255) ∣ sized n angled) (sized n name)
same_name n = record {
  to = λ t v s. elim s [ inl b ↦ (inl b.0, b.1) | inr a ↦ (inr a.0, a.1) ];
  back = λ t v s. elim (s.0) [ inl b ↦ inl (b, s.1) | inr a ↦ inr (a, s.1) ];
}

small_at : (n : ℕ) (text : List ℕ) → n < 3 → angled_of_at n text ≡ Err (length text)
unfolding angled_of_at
small_at n text lt = rw (lt-ltb n 3 lt) refl

angled_first : (t w k : List ℕ) → angled t w → next_is starts_name (t ++ k) ≡ false
angled_first t w k s = ap (λ (a : List ℕ). next_is starts_name (a ++ k)) s.parts ∙ ap (λ (a : List ℕ). next_is starts_name ((a ++ s.back) ++ k)) s.in_first

bare_true : (n : ℕ) (text : List ℕ) → 1 ≤ n → n ≤ 255 → next_is starts_name text ≡ true → IsExact (sized n (bare 255)) Anything text (bare_of_at n text)
bare_true n text pos le e = bare_first n text true pos le e

pub exact_name_of : (n : ℕ) (text : List ℕ) → 1 ≤ n → n ≤ 255 → IsExact (sized n name) Anything text (name_of_at n text)
unfolding name_of_at is_kind
exact_name_of n text pos le = elim (cases_lt n 3) [
  | inl lt ↦ exact_same (sized n (bare 255)) (sized n name) Anything text (cond (next_is starts_name text) (bare_of_at n text) (angled_of_at n text)) (same_small n lt)
      (subst (λ (o : Outcome (List ℕ)). IsExact (sized n (bare 255)) Anything text (cond (next_is starts_name text) (bare_of_at n text) o)) (sym (small_at n text lt))
      (bare_first n text (next_is starts_name text) pos le refl))
  | inr least ↦ exact_same (sized n (bare 255) ∣ sized n angled) (sized n name) Anything text (cond (next_is starts_name text) (bare_of_at n text) (angled_of_at n text)) (same_name n)
      (exact_or (sized n (bare 255)) (sized n angled) Anything starts_name text (bare_of_at n text) (angled_of_at n text)
      (λ t w k s f. first_of_word t k s.0.0.0) (λ t w k s f. angled_first t w k s.0)
      (λ e. bare_true n text pos le e) (λ e. (reads_angled n least le).is))
]

-- ---- what was read is a name

-- the bytes of the name are the first n ones
pub angled_is_front : (n : ℕ) (text w rest : List ℕ) → 3 ≤ n → n ≤ 255 → angled_of_at n text ≡ Ok (w, rest) → (n ≤ length text) × (w ≡ take n text)
angled_is_front n text w rest least le e =
    let d : IsExact (sized n angled) Anything text (Ok (w, rest)) = subst (λ (o : Outcome (List ℕ)). IsExact (sized n angled) Anything text o) e (reads_angled {text = text} n least le).is in
    let front-is : take n text ≡ d.front = ap (λ (k : ℕ). take k text) (sym d.fits.1) ∙ ap (λ (a : List ℕ). take (length d.front) a) d.parts ∙ take-append_seam d.front rest in (
      omega (arith, d.fits.1, length-parts d.front rest text d.parts),
      name_value d.front w (inr d.fits.0) ∙ sym front-is,
    )
