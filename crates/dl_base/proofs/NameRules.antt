-- Readers of names and variables are exact.
use Rattle.std.proofs.Common.{◌≡◌, ℕ, zero, suc, ◌<◌, ◌≤◌, Bool, true, false, cond, List, [], ◌∷◌, ◌++◌, length, Ok, Err, refl, sym, ap, subst, ◌∙◌, arith, inl, inr}
use Rattle.std.specs.Prelude.{codes, ◌||◌, ◌≢◌}
use Rattle.std.specs.Str.{bytes_eq}
use Rattle.std.specs.List.{list_all}
use Rattle.std.proofs.lemmas.Bool.{or_cases, and_parts}
use Rattle.std.proofs.lemmas.Slice.Eq.{bytes_eq-Decides}
use Rattle.grammar.specs.Bytes.{starts_name, is_name_byte, is_angled_byte, is_kind}
use Rattle.grammar.specs.declared.bytes.Kind.TheVariants.{Angled}
use Rattle.grammar.specs.Grammar.{Grammar, bytes_within}
use Rattle.grammar.specs.Reading.{Outcome, next_is, run_at, some_at}
use Rattle.grammar.proofs.Exact.{SameHead, next_is-alike, IsRead, IsExact, Follow, Nothing}
use Rattle.grammar.proofs.Parts.{Stops, Every, IsRun, run_at-run, run_only, exact_some}
use Rattle.grammar.proofs.ByteKinds.{naming_from_starting}
use Rattle.grammar.proofs.Rules.{Reads, FirstIs, first_literal, first_or, reads_stop, reads_any, reads_literal, reads_means, reads_or, reads_fewer, nothing_stops}
use Rattle.dl_base.specs.Names.{IsWord, IsReserved, IsBare, IsName, angled, bare, name, variable}
use Rattle.dl_base.specs.NameReading.{is_reserved, angled_at, bare_at, name_at, variable_at}

pub reads_inner : {text : List ℕ} → Reads (bytes_within is_angled_byte 1 253) (Stops is_angled_byte) text (some_at (is_kind Angled) 253 text)
unfolding is_kind
reads_inner {text} = record {
  is = exact_some is_angled_byte 253 65 text (omega arith) refl;
  some = record { text = 65 ∷ []; value = 65 ∷ []; is = ((refl, tt), omega arith, omega arith, refl) };
}

pub reads_angled : {F : Follow (List ℕ)} {text : List ℕ} → Reads angled F text (angled_at text)
unfolding angled_at
reads_angled =
    reads_any _ reads_literal (λ _ rest.
    reads_stop _ reads_inner (λ inner. first_literal is_angled_byte) (λ inner rest.
    reads_any _ reads_literal (λ _ rest.
    reads_means)))

-- ---- bare names

pub same_text : (w text : List ℕ) → bytes_eq w text ≡ true → w ≡ text
same_text w text e = (bytes_eq-Decides w text).0 e

pub is_not : (w text : List ℕ) → bytes_eq w text ≡ false → w ≢ text
is_not w text differs e =
    let yes : bytes_eq w text ≡ true = (bytes_eq-Decides w text).1 e in
    absurd (cc)

pub reserved_cases : (w : List ℕ) → is_reserved w ≡ true → IsReserved w
reserved_cases w e = elim (or_cases (bytes_eq w (codes "nothing") || bytes_eq w (codes "And") || bytes_eq w (codes "Some")) (bytes_eq w (codes "Inv")) e) [
  | inr d ↦ inr (inr (inr (same_text w (codes "Inv") d)))
  | inl e ↦ elim (or_cases (bytes_eq w (codes "nothing") || bytes_eq w (codes "And")) (bytes_eq w (codes "Some")) e) [
    | inr d ↦ inr (inr (inl (same_text w (codes "Some") d)))
    | inl e ↦ elim (or_cases (bytes_eq w (codes "nothing")) (bytes_eq w (codes "And")) e) [
      | inr d ↦ inr (inl (same_text w (codes "And") d))
      | inl d ↦ inl (same_text w (codes "nothing") d)
    ]
  ]
]

pub reserved_test : (w : List ℕ) → IsReserved w → is_reserved w ≡ true
reserved_test w (inl e) = ap is_reserved e
reserved_test w (inr (inl e)) = ap is_reserved e
reserved_test w (inr (inr (inl e))) = ap is_reserved e
reserved_test w (inr (inr (inr e))) = ap is_reserved e

pub word_each : (t : List ℕ) → IsWord t → Every is_name_byte t
word_each [] b = absurd b
word_each (c ∷ cs) b = (naming_from_starting c b.0, b.1)

-- a word that is not reserved is a bare name
pub bare_of : (w : List ℕ) → IsWord w → is_reserved w ≡ false → IsBare w
bare_of w word free = (word, λ r. let taken : is_reserved w ≡ true = reserved_test w r in absurd (cc))

-- what passes a test byte by byte
pub each_of : (p : ℕ → Bool) (xs : List ℕ) → list_all p xs ≡ true → Every p xs
each_of p [] e = tt
each_of p (c ∷ cs) e =
    let both = and_parts (p c) (list_all p cs) e in
    (both.0, each_of p cs both.1)

-- a reserved word is the front of a name
abbrev GoesOnBare : List ℕ → Type 0
GoesOnBare w = (IsBare (w ++ codes "0")) × (length (w ++ codes "0") ≤ 8)

pub reserved_goes_on : (w : List ℕ) → IsReserved w → GoesOnBare w
reserved_goes_on w (inl e) = subst (λ (a : List ℕ). GoesOnBare a) (sym e) (bare_of (codes "nothing0") (refl, each_of is_name_byte (codes "othing0") refl) refl, omega arith)
reserved_goes_on w (inr (inl e)) = subst (λ (a : List ℕ). GoesOnBare a) (sym e) (bare_of (codes "And0") (refl, each_of is_name_byte (codes "nd0") refl) refl, omega arith)
reserved_goes_on w (inr (inr (inl e))) = subst (λ (a : List ℕ). GoesOnBare a) (sym e) (bare_of (codes "Some0") (refl, each_of is_name_byte (codes "ome0") refl) refl, omega arith)
reserved_goes_on w (inr (inr (inr e))) = subst (λ (a : List ℕ). GoesOnBare a) (sym e) (bare_of (codes "Inv0") (refl, each_of is_name_byte (codes "nv0") refl) refl, omega arith)

reserved_only : (most : ℕ) (front rest t k x : List ℕ) → Every is_name_byte front → (length front < most → next_is is_name_byte rest ≡ false)
    → IsBare t → length t ≤ most → next_is is_name_byte k ≡ false → t ++ k ≡ front ++ x → SameHead rest x → t ≡ front
reserved_only most front rest t k x each full b short stops cut head =
    run_only is_name_byte front rest t k x each (word_each t b.0) (λ lt. full (omega (arith, lt, short))) stops cut head

word_once : (most c : ℕ) (cs : List ℕ) (word rest : List ℕ) (reserved : Bool) → 8 ≤ most → starts_name c ≡ true → IsRun is_name_byte most (c ∷ cs) (c ∷ word) rest → is_reserved (c ∷ word) ≡ reserved
    → IsExact (bare most) (Stops is_name_byte) (c ∷ cs) (cond reserved (Err (length rest)) (Ok (c ∷ word, rest)))
word_once most c cs word rest true pos start r e =
    let kind = reserved_cases (c ∷ word) e in
    let on = reserved_goes_on (c ∷ word) kind in
    record {
      front = c ∷ word;
      rest = rest;
      left_is = refl;
      parts = r.parts;
      begins = (codes "0", (c ∷ word) ++ codes "0", (on.0, omega (arith, on.1), refl));
      never = λ t w k x s f cut head.
          let t-is = reserved_only most (c ∷ word) rest t k x r.each r.full s.0 s.1 f cut head in
          (subst (λ (a : List ℕ). IsBare a) t-is s.0).1 kind;
    }
word_once most c cs word rest false pos start r e = record {
  front = c ∷ word;
  parts = r.parts;
  fits = (bare_of (c ∷ word) (start, r.each.1) e, r.within, refl);
  only = λ t w k x s f cut head.
      let t-is = reserved_only most (c ∷ word) rest t k x r.each r.full s.0 s.1 f cut head in
      (t-is, s.2 ∙ t-is);
}

pub run_at-cons : (p : ℕ → Bool) (n c : ℕ) (cs : List ℕ) → p c ≡ true → run_at p (suc n) (c ∷ cs) ≡ (c ∷ (run_at p n cs).0, (run_at p n cs).1)
run_at-cons p n c cs test = rw test refl

pub word_never : (text t k x : List ℕ) → next_is starts_name text ≡ false → IsWord t → t ++ k ≡ x → SameHead text x → ⊥
word_never text [] k x differs b cut head = b
word_never text (c ∷ cs) k x differs b cut head =
    let yes : starts_name c ≡ true = b.0 in
    let also : starts_name c ≡ false = ap (next_is starts_name) cut ∙ sym (next_is-alike starts_name text x head) ∙ differs in
    absurd (cc)

bare_once : (most : ℕ) (text : List ℕ) (test : Bool) → 8 ≤ most → next_is starts_name text ≡ test
    → IsExact (bare most) (Stops is_name_byte) text (cond test (let found = run_at is_name_byte most text in cond (is_reserved found.0) (Err (length found.1)) (Ok found)) (Err (length text)))
bare_once zero text test pos e = absurd (omega arith)
bare_once (suc n) [] true pos e = absurd cc
bare_once (suc n) (c ∷ cs) true pos e =
    let run : run_at is_name_byte (suc n) (c ∷ cs) ≡ (c ∷ (run_at is_name_byte n cs).0, (run_at is_name_byte n cs).1) = run_at-cons is_name_byte n c cs (naming_from_starting c e) in
    let r : IsRun is_name_byte (suc n) (c ∷ cs) (c ∷ (run_at is_name_byte n cs).0) (run_at is_name_byte n cs).1 =
    subst (λ (a : List ℕ × List ℕ). IsRun is_name_byte (suc n) (c ∷ cs) a.0 a.1) run (run_at-run is_name_byte (suc n) (c ∷ cs)) in
    subst (λ (found : List ℕ × List ℕ). IsExact (bare (suc n)) (Stops is_name_byte) (c ∷ cs) (cond (is_reserved found.0) (Err (length found.1)) (Ok found))) (sym run)
    (word_once (suc n) c cs (run_at is_name_byte n cs).0 (run_at is_name_byte n cs).1 (is_reserved (c ∷ (run_at is_name_byte n cs).0)) pos e r refl)
bare_once (suc n) text false pos e = record {
  front = [];
  rest = text;
  left_is = refl;
  parts = refl;
  begins = (codes "a", codes "a", (bare_of (codes "a") (refl, tt) refl, omega (arith, pos), refl));
  never = λ t w k x s f cut head. word_never text t k x e s.0.0 cut head;
}

pub reads_bare : {text : List ℕ} (most : ℕ) → 8 ≤ most → Reads (bare most) (Stops is_name_byte) text (bare_at most text)
unfolding bare_at is_kind
reads_bare {text} most pos = record {
  is = bare_once most text (next_is starts_name text) pos refl;
  some = record { text = codes "a"; value = codes "a"; is = (bare_of (codes "a") (refl, tt) refl, omega (arith, pos), refl) };
}

-- ---- names and variables

pub first_of_word : (text k : List ℕ) → IsWord text → next_is starts_name (text ++ k) ≡ true
first_of_word [] k b = absurd b
first_of_word (c ∷ cs) k b = b.0

pub first_bare_not : {most : ℕ} {G : Follow (List ℕ)} {p : ℕ → Bool} → ((c : ℕ) → starts_name c ≡ true → p c ≡ false) → FirstIs (bare most) G p false
first_bare_not {most} {G} {p} apart = record { is = λ t w k s f. not_first t k s.0.0 }
  where
    not_first : (text k : List ℕ) → IsWord text → next_is p (text ++ k) ≡ false
    not_first [] k b = absurd b
    not_first (c ∷ cs) k b = apart c b.0

-- a name does not begin with such a byte
pub first_name : {G : Follow (List ℕ)} {p : ℕ → Bool} → ((c : ℕ) → starts_name c ≡ true → p c ≡ false) → p 60 ≡ false → FirstIs name G p false
first_name {G} {p} apart at = first_or (first_bare_not apart) (subst (λ (b : Bool). FirstIs angled G p b) at (first_literal p))

first_bare : {most : ℕ} {G : Follow (List ℕ)} → FirstIs (bare most) G starts_name true
first_bare = record { is = λ t w k s f. first_of_word t k s.0.0 }

pub reads_name : {text : List ℕ} → Reads name (Stops is_name_byte) text (name_at text)
unfolding name_at is_kind
reads_name = reads_or starts_name first_bare (first_literal starts_name) (reads_bare 255 (omega arith)) reads_angled

pub reads_variable : {text : List ℕ} → Reads variable (Stops is_name_byte) text (variable_at text)
unfolding variable_at
reads_variable = reads_any _ reads_literal (λ _ rest. reads_bare 254 (omega arith))

-- ---- a whole name

pub reads_whole_name : {text : List ℕ} → Reads name Nothing text (name_at text)
reads_whole_name = reads_fewer (nothing_stops is_name_byte) reads_name

-- a name's value is its text
pub name_value : (text value : List ℕ) → name text value → value ≡ text
name_value text value (inl b) = b.2
name_value text value (inr a) =
    let b = a.in_second in
    let d = b.in_second in
    let inner : b.met ≡ b.front = b.in_first.3 in
    let end : d.back ≡ [] = d.in_second.0 in
    let whole : text ≡ codes "<" ++ (b.front ++ (codes ">" ++ [])) =
    a.parts ∙ ap (λ (x : List ℕ). x ++ a.back) a.in_first ∙ ap (λ (x : List ℕ). codes "<" ++ x) (b.parts ∙ ap (λ (x : List ℕ). b.front ++ x) (d.parts ∙ ap (λ (x : List ℕ). x ++ d.back) d.in_first ∙ ap (λ (x : List ℕ). codes ">" ++ x) end)) in
    d.in_second.1 ∙ ap (λ (x : List ℕ). codes "<" ++ x ++ codes ">") inner ∙ sym whole

-- ---- what was read is a name

pub name_of_bare : (most : ℕ) (w : List ℕ) → most ≤ 255 → IsBare w → length w ≤ most → IsName w
name_of_bare most w le b short = (w, inl (b, omega (arith, le, short), refl))

-- what a reader gave at a text is in its grammar
pub read_of : {V : Type 0} {g : Grammar V} {F : Follow V} {text : List ℕ} {r : Outcome V} (v : V) (rest : List ℕ) → Reads g F text r → r ≡ Ok (v, rest) → IsRead g F text v rest
read_of {V} {g} {F} {text} {r} v rest d e = subst (λ (o : Outcome V). IsExact g F text o) e d.is

pub bare_is_name : (most : ℕ) (text w rest : List ℕ) → 8 ≤ most → most ≤ 255 → bare_at most text ≡ Ok (w, rest) → IsName w
bare_is_name most text w rest least le e =
    let fits = (read_of w rest (reads_bare most least) e).fits in
    let front-is = fits.2 in
    name_of_bare most w le (subst (λ (a : List ℕ). IsBare a) (sym front-is) fits.0) (subst (λ (a : List ℕ). length a ≤ most) (sym front-is) fits.1)

pub angled_is_name : (text inner rest : List ℕ) → some_at (is_kind Angled) 253 text ≡ Ok (inner, rest) → IsName (codes "<" ++ inner ++ codes ">")
angled_is_name text inner rest e =
    let fits = (read_of inner rest reads_inner e).fits in
    let front-is = fits.3 in
    let each : Every is_angled_byte inner = subst (λ (a : List ℕ). Every is_angled_byte a) (sym front-is) fits.0 in
    let least : 1 ≤ length inner = subst (λ (a : List ℕ). 1 ≤ length a) (sym front-is) fits.1 in
    let most : length inner ≤ 253 = subst (λ (a : List ℕ). length a ≤ 253) (sym front-is) fits.2 in (
      codes "<" ++ inner ++ codes ">",
      inr record {
        front = codes "<";
        back = inner ++ codes ">";
        met = tt;
        parts = refl;
        in_first = refl;
        in_second = record {
          front = inner;
          back = codes ">";
          met = inner;
          parts = refl;
          in_first = (each, least, most, refl);
          in_second = record { front = codes ">"; back = []; met = tt; parts = refl; in_first = refl; in_second = (refl, refl) };
        };
      },
    )
