-- The reading of a number is exact.
use Rattle.std.proofs.Common.{◌≡◌, ℕ, zero, suc, ◌+◌, ◌*◌, ◌-◌, ◌^◌, ◌<◌, ◌≤◌, Bool, true, false, cond, eqb, List, [], ◌∷◌, ◌++◌, length, take, get_or, Ok, Err, refl, sym, ap, subst, ◌∙◌, append_assoc, arith}
use Rattle.std.specs.Prelude.{IsTrue, ◌&&◌, nat_le}
use Rattle.std.specs.Fmt.{decimal}
use Rattle.std.specs.Char.{digit_value}
use Rattle.std.specs.Str.Parse.{AllDigits, digits_value}
use Rattle.std.proofs.lemmas.Bool.{and_from, and_parts, le-leb, leb-true, eqb-true, eqb-false}
use Rattle.std.proofs.lemmas.Fmt.{decimal_is_IsNumeral, decimal_injective, decimal_nonempty, first_decimal, decimal_digit, decimal-digits_value}
use Rattle.std.proofs.lemmas.Int.Digits.{digits_value_push, digits_push}
use Rattle.std.proofs.lemmas.Str.{digit_value_digit}
use Rattle.std.proofs.lemmas.Str.Parse.{digit_from_value, digits_value-take-le, IsNumeralModel}
use Rattle.std.proofs.lemmas.List.{append-nil, take_at, length_push}
use Rattle.grammar.specs.Bytes.{is_digit}
use Rattle.grammar.specs.Grammar.{Begins}
use Rattle.grammar.specs.Reading.{Outcome, next_is}
use Rattle.grammar.specs.Numbers.{number, with_digit, may_grow, digits_at, number_at}
use Rattle.grammar.proofs.Exact.{SameHead, Follow, IsRead, IsFault, IsExact}
use Rattle.grammar.proofs.Parts.{Every, Every-middle, Stops, alike, shorter, longer, cut_of}
use Rattle.grammar.proofs.Rules.{Reads, FirstIs}

-- ---- digits

digit_test : (c : ℕ) → digit_value c < 10 → is_digit c ≡ true
digit_test c lt =
    let range = digit_from_value c lt in
    and_from (nat_le 48 c) (nat_le c 57) (le-leb 48 c range.0) (le-leb c 57 range.1)

every_digit : (ds : List ℕ) → AllDigits 10 ds → Every is_digit ds
every_digit [] all = tt
every_digit (c ∷ cs) all = (digit_test c all.0, every_digit cs all.1)

digit_inside : (a : List ℕ) (c : ℕ) (m : List ℕ) → AllDigits 10 (a ++ c ∷ m) → digit_value c < 10
digit_inside [] c m all = all.0
digit_inside (d ∷ a) c m all = digit_inside a c m all.1

digit_is : (c : ℕ) → digit_value c < 10 → c - 48 ≡ digit_value c
digit_is c lt =
    let e = digit_value_digit c (digit_from_value c lt) in
    omega (arith, e)

own_digits : IsNumeralModel (AllDigits 10) (digits_value 10)
own_digits = record { to = λ ds all. all; from = λ ds all. all; same = λ ds all. refl }

-- a text of a number that goes on behind these digits goes on with one that the number may grow by
goes_on : (most w n c : ℕ) (front m t : List ℕ) → w < 2 ^ 64 → w ≤ most → t ≡ decimal w → t ≡ front ++ c ∷ m → digits_value 10 front ≡ n → may_grow most n c ≡ true
goes_on most w n c front m t small within is cut value =
    let numeral = decimal_is_IsNumeral w small in
    let all : AllDigits 10 (front ++ c ∷ m) = subst (λ (l : List ℕ). AllDigits 10 l) (sym is ∙ cut) numeral.0.1 in
    let digit = digit_inside front c m all in
    let first : take (length front + 1) t ≡ front ++ c ∷ [] = ap (λ (l : List ℕ). take (length front + 1) l) (cut ∙ sym (append_assoc front (c ∷ []) m)) ∙ take_at (front ++ c ∷ []) m (length front + 1) (length_push front c) in
    let part : digits_value 10 (take (length front + 1) t) ≤ digits_value 10 t = digits_value-take-le 10 t (length front + 1) (omega arith) in
    let total : digits_value 10 t ≡ w = ap (digits_value 10) is ∙ numeral.1 in
    let pushed : digits_value 10 (take (length front + 1) t) ≡ n * 10 + (c - 48) =
    ap (digits_value 10) first ∙ digits_value_push 10 front c ∙ ap (λ (v : ℕ). v * 10 + digit_value c) value ∙ ap (λ (v : ℕ). n * 10 + v) (sym (digit_is c digit)) in
    and_from (is_digit c) (nat_le (with_digit n c) most) (digit_test c digit) (le-leb (with_digit n c) most (omega (arith, part, total, pushed, within)))

-- ---- behind a first digit

-- the digits of a number that doesn't begin with 0
pub record AreDigitsOf (n : ℕ) (front : List ℕ) : Type 0 where
  pub all : AllDigits 10 front
  pub value : digits_value 10 front ≡ n
  pub first : get_or front 0 0 ≡ 48 → ⊥
  pub some : 0 < length front

text_of : (n : ℕ) (front : List ℕ) → n < 2 ^ 64 → AreDigitsOf n front → front ≡ decimal n
text_of n front small d =
    sym (decimal-digits_value own_digits front d.all d.some (λ e. absurd (d.first e)) (subst (λ (v : ℕ). v < 2 ^ 64) (sym d.value) small)) ∙ ap decimal d.value

no_more : (most n c d : ℕ) → may_grow most n c ≡ false → c ≡ d → may_grow most n d ≡ true → ⊥
no_more most n c d stop same grow = absurd (let e : may_grow most n c ≡ true = ap (may_grow most n) same ∙ grow in cc)

-- the next byte doesn't make the number grow
abbrev Ends : ℕ → ℕ → List ℕ → Type 0
Ends most n rest = (c : ℕ) (cs : List ℕ) → rest ≡ c ∷ cs → may_grow most n c ≡ false

never_longer : (most n c : ℕ) (m k x rest : List ℕ) → Ends most n rest → SameHead rest x → x ≡ c ∷ (m ++ k) → may_grow most n c ≡ true → ⊥
never_longer most n c m k x [] ends head is grow = subst (λ (l : List ℕ). SameHead [] l) is head
never_longer most n c m k x (d ∷ ds) ends head is grow = no_more most n d c (ends d ds refl) (subst (λ (l : List ℕ). SameHead (d ∷ ds) l) is head) grow

only_number : (most n : ℕ) (front rest t : List ℕ) (w : ℕ) (k x : List ℕ) → most < 2 ^ 64 → n ≤ most → AreDigitsOf n front → Ends most n rest
    → number most t w → next_is is_digit k ≡ false → t ++ k ≡ front ++ x → SameHead rest x → (t ≡ front) × (w ≡ n)
only_number most n front rest t w k x bound within d ends s stops cut head = elim (cut_of t k front x cut) [
  | alike a b ↦ (a, decimal_injective w n (omega (arith, bound, s.1)) (omega (arith, bound, within)) (sym s.0 ∙ a ∙ text_of n front (omega (arith, bound, within)) d))
  | shorter c m a b ↦
      let yes : is_digit c ≡ true = Every-middle is_digit t c m (subst (λ (l : List ℕ). Every is_digit l) a (every_digit front d.all)) in
      let no : is_digit c ≡ false = sym (ap (next_is is_digit) b) ∙ stops in
      absurd (cc)
  | longer c m a b ↦ absurd (never_longer most n c m k x rest ends head b (goes_on most w n c front m t (omega (arith, bound, s.1)) s.1 s.0 a d.value))
]

read_here : (most n : ℕ) (front rest : List ℕ) → most < 2 ^ 64 → n ≤ most → AreDigitsOf n front → Ends most n rest → IsRead (number most) (Stops is_digit) (front ++ rest) n rest
read_here most n front rest bound within d ends = record {
  front = front;
  parts = refl;
  fits = (text_of n front (omega (arith, bound, within)) d, within);
  only = λ t w k x s f cut head. only_number most n front rest t w k x bound within d ends s f cut head;
}

grown : (n c : ℕ) (front : List ℕ) → is_digit c ≡ true → digit_value c < 10 → AreDigitsOf n front → AreDigitsOf (with_digit n c) (front ++ c ∷ [])
grown n c front digit value d = record {
  all = digits_push 10 front c d.all value;
  value = digits_value_push 10 front c ∙ ap (λ (v : ℕ). v * 10 + digit_value c) d.value ∙ ap (λ (v : ℕ). n * 10 + v) (sym (digit_is c value));
  first = λ e. d.first (sym (first_of front (c ∷ []) d.some) ∙ e);
  some = omega (arith, length_push front c);
}
  where
    first_of : (a b : List ℕ) → 0 < length a → get_or (a ++ b) 0 0 ≡ get_or a 0 0
    first_of [] b lt = absurd (omega (arith, lt))
    first_of (x ∷ xs) b lt = refl

value_of : (c : ℕ) → is_digit c ≡ true → digit_value c < 10
value_of c digit =
    let range = and_parts (nat_le 48 c) (nat_le c 57) digit in
    let e = digit_value_digit c (leb-true 48 c range.0, leb-true c 57 range.1) in
    omega (arith, e, leb-true c 57 range.1)

reads_digits : (most n : ℕ) (front text : List ℕ) → most < 2 ^ 64 → n ≤ most → AreDigitsOf n front → IsRead (number most) (Stops is_digit) (front ++ text) (digits_at most n text).0 (digits_at most n text).1
reads_digits most n front [] bound within d = read_here most n front [] bound within d (λ c cs e. absurd (cc))
reads_digits most n front (c ∷ cs) bound within d = by (reads_digits most (with_digit n c) (front ++ c ∷ []) cs bound) (may_grow most n c) refl
  where
    by : (with_digit n c ≤ most → AreDigitsOf (with_digit n c) (front ++ c ∷ []) → IsRead (number most) (Stops is_digit) ((front ++ c ∷ []) ++ cs) (digits_at most (with_digit n c) cs).0 (digits_at most (with_digit n c) cs).1) → (b : Bool) → may_grow most n c ≡ b → IsRead (number most) (Stops is_digit) (front ++ c ∷ cs) (cond b (digits_at most (with_digit n c) cs) (n, c ∷ cs)).0 (cond b (digits_at most (with_digit n c) cs) (n, c ∷ cs)).1
    by more false e = read_here most n front (c ∷ cs) bound within d (λ c' cs' same. let head : c ≡ c' = cc in sym (ap (may_grow most n) head) ∙ e)
    by more true e =
        let parts = and_parts (is_digit c) (nat_le (with_digit n c) most) e in
        subst (λ (l : List ℕ). IsRead (number most) (Stops is_digit) l (digits_at most (with_digit n c) cs).0 (digits_at most (with_digit n c) cs).1) (append_assoc front (c ∷ []) cs)
        (more (leb-true (with_digit n c) most parts.1) (grown n c front parts.0 (value_of c parts.0) d))

-- ---- from the first digit

zero_alone : (most : ℕ) (cs t : List ℕ) (w : ℕ) (k x : List ℕ) → most < 2 ^ 64 → number most t w → t ++ k ≡ 48 ∷ x → (t ≡ 48 ∷ []) × (w ≡ 0)
zero_alone most cs t zero k x bound s cut = (s.0 ∙ decimal_digit 0 (omega arith), refl)
zero_alone most cs t (suc w) k x bound s cut =
    let small : suc w < 2 ^ 64 = omega (arith, bound, s.1) in
    absurd (not_zero t (subst (λ (l : List ℕ). 48 < get_or l 0 0) (sym s.0) (first_decimal (suc w) (omega arith) small)) (subst (λ (l : List ℕ). 0 < length l) (sym s.0) (decimal_nonempty (suc w) small)) cut)
  where
    not_zero : (t : List ℕ) → 48 < get_or t 0 0 → 0 < length t → t ++ k ≡ 48 ∷ x → ⊥
    not_zero [] above some e = omega (arith, some)
    not_zero (d ∷ ds) above some e =
        let head : d ≡ 48 = cc in
        omega (arith, above, head)

reads_zero : (most : ℕ) (cs : List ℕ) → most < 2 ^ 64 → IsRead (number most) (Stops is_digit) (48 ∷ cs) 0 cs
reads_zero most cs bound = record {
  front = 48 ∷ [];
  parts = refl;
  fits = (sym (decimal_digit 0 (omega arith)), omega arith);
  only = λ t w k x s f cut head. zero_alone most cs t w k x bound s cut;
}

no_number : (most : ℕ) (text : List ℕ) → most < 2 ^ 64 → Ends most 0 text → IsFault (number most) (Stops is_digit) text (length text)
no_number most text bound ends = record {
  front = [];
  rest = text;
  left_is = refl;
  parts = refl;
  begins = (decimal 0, 0, (refl, omega arith));
  never = λ t w k x s f cut head.
      let small : w < 2 ^ 64 = omega (arith, bound, s.1) in
      longer_than_none t w k x small s.0 s.1 (subst (λ (l : List ℕ). 0 < length l) (sym s.0) (decimal_nonempty w small)) cut head;
}
  where
    longer_than_none : (t : List ℕ) (w : ℕ) (k x : List ℕ) → w < 2 ^ 64 → t ≡ decimal w → w ≤ most → 0 < length t → t ++ k ≡ x → SameHead text x → ⊥
    longer_than_none [] w k x small is within some cut head = omega (arith, some)
    longer_than_none (d ∷ ds) w k x small is within some cut head =
        never_longer most 0 d ds k x text ends head (sym cut) (goes_on most w 0 d [] ds (d ∷ ds) small within is refl refl)

first_digits : (most c : ℕ) → (c ≡ 48 → ⊥) → may_grow most 0 c ≡ true → AreDigitsOf (with_digit 0 c) (c ∷ [])
first_digits most c other grow =
    let parts = and_parts (is_digit c) (nat_le (with_digit 0 c) most) grow in
    let value = value_of c parts.0 in
    record {
      all = (value, tt);
      value = digits_value_push 10 [] c ∙ sym (ap (λ (v : ℕ). 0 * 10 + v) (digit_is c value));
      first = other;
      some = omega arith;
    }

exact_number : (most : ℕ) (text : List ℕ) → most < 2 ^ 64 → IsExact (number most) (Stops is_digit) text (number_at most text)
unfolding number_at
exact_number most [] bound = no_number most [] bound (λ c cs e. absurd (cc))
exact_number most (c ∷ cs) bound = by (eqb c 48) (may_grow most 0 c) refl refl
  where
    by : (z b : Bool) → eqb c 48 ≡ z → may_grow most 0 c ≡ b → IsExact (number most) (Stops is_digit) (c ∷ cs) (cond z (Ok (0, cs)) (cond b (Ok (digits_at most (with_digit 0 c) cs)) (Err (length (c ∷ cs)))))
    by true b is e = subst (λ (d : ℕ). IsRead (number most) (Stops is_digit) (d ∷ cs) 0 cs) (sym (eqb-true c 48 is)) (reads_zero most cs bound)
    by false true is e = reads_digits most (with_digit 0 c) (c ∷ []) cs bound (leb-true (with_digit 0 c) most (and_parts (is_digit c) (nat_le (with_digit 0 c) most) e).1) (first_digits most c (eqb-false c 48 is) e)
    by false false is e = no_number most (c ∷ cs) bound (λ c' cs' same. let head : c ≡ c' = cc in sym (ap (may_grow most 0) head) ∙ e)

pub reads_number : {text : List ℕ} (most : ℕ) → most < 2 ^ 64 → Reads (number most) (Stops is_digit) text (number_at most text)
reads_number {text} most bound = record { is = exact_number most text bound; some = record { text = decimal 0; value = 0; is = (refl, omega arith) } }

-- what a number begins with
pub first_number : {most : ℕ} {G : Follow ℕ} {p : ℕ → Bool} {answer : Bool} → most < 2 ^ 64 → ((c : ℕ) → is_digit c ≡ true → p c ≡ answer) → FirstIs (number most) G p answer
first_number {most} {G} {p} {answer} bound each = record { is = λ t w k s f. by t w k (omega (arith, bound, s.1)) s.0 }
  where
    some_digit : (t k : List ℕ) → Every is_digit t → 0 < length t → next_is p (t ++ k) ≡ answer
    some_digit [] k all some = absurd (omega (arith, some))
    some_digit (c ∷ cs) k all some = each c all.0

    by : (t : List ℕ) (w : ℕ) (k : List ℕ) → w < 2 ^ 64 → t ≡ decimal w → next_is p (t ++ k) ≡ answer
    by t w k small is =
        let numeral = decimal_is_IsNumeral w small in
        some_digit t k (subst (λ (l : List ℕ). Every is_digit l) (sym is) (every_digit (decimal w) numeral.0.1)) (subst (λ (l : List ℕ). 0 < length l) (sym is) numeral.0.0)
