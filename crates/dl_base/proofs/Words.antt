-- Names beside reserved words that open something or stand for themselves.
use Rattle.std.proofs.Common.{◌≡◌, ℕ, ◌≤◌, Bool, true, false, cond, List, [], ◌∷◌, ◌++◌, length, Ok, Err, refl, sym, ap, subst, ◌∙◌, append_assoc, arith, inl, inr, ◌⊎◌}
use Rattle.std.specs.Prelude.{codes}
use Rattle.std.specs.Str.{bytes_eq}
use Rattle.grammar.specs.Bytes.{starts_name, is_name_byte, is_kind}
use Rattle.grammar.specs.declared.bytes.Kind.TheVariants.{Starting, Naming}
use Rattle.grammar.specs.Grammar.{Grammar, Sequence, ◌>>=◌, ◌>>◌, ◌∣◌, literal}
use Rattle.grammar.specs.Reading.{Outcome, and_then, next_is, run_at}
use Rattle.grammar.proofs.Exact.{Follow, Same, same_sym, IsExact, exact_same, exact_then_stuck}
use Rattle.grammar.proofs.Parts.{Stops, IsRun, run_at-run, run_only}
use Rattle.grammar.proofs.ByteKinds.{naming_from_starting}
use Rattle.grammar.proofs.Rules.{Reads, HasText, FirstIs, reads_same}
use Rattle.grammar.proofs.Given.{given, same_without}
use Rattle.dl_base.specs.Names.{IsWord, IsBare, bare, word}
use Rattle.dl_base.specs.NameReading.{is_reserved, word_at}
use Rattle.dl_base.proofs.NameRules.{run_at-cons, bare_of, word_each, word_never, first_of_word, reserved_cases, reserved_goes_on, same_text, is_not, read_of}

word_once : (text : List ℕ) (test : Bool) → next_is starts_name text ≡ test → IsExact word (Stops is_name_byte) text (cond test (Ok (run_at is_name_byte 255 text)) (Err (length text)))
word_once [] true e = absurd cc
word_once (c ∷ cs) true e =
    let run : run_at is_name_byte 255 (c ∷ cs) ≡ (c ∷ (run_at is_name_byte 254 cs).0, (run_at is_name_byte 254 cs).1) = run_at-cons is_name_byte 254 c cs (naming_from_starting c e) in
    let r : IsRun is_name_byte 255 (c ∷ cs) (c ∷ (run_at is_name_byte 254 cs).0) (run_at is_name_byte 254 cs).1 =
    subst (λ (a : List ℕ × List ℕ). IsRun is_name_byte 255 (c ∷ cs) a.0 a.1) run (run_at-run is_name_byte 255 (c ∷ cs)) in
    subst (λ (found : List ℕ × List ℕ). IsExact word (Stops is_name_byte) (c ∷ cs) (Ok found)) (sym run) record {
      front = c ∷ (run_at is_name_byte 254 cs).0;
      parts = r.parts;
      fits = ((e, r.each.1), r.within, refl);
      only = λ t w k x s f cut head.
          let t-is = run_only is_name_byte (c ∷ (run_at is_name_byte 254 cs).0) (run_at is_name_byte 254 cs).1 t k x r.each (word_each t s.0) (λ lt. r.full (omega (arith, lt, s.1))) f cut head in
          (t-is, s.2 ∙ t-is);
    }
word_once text false e = record {
  front = [];
  rest = text;
  left_is = refl;
  parts = refl;
  begins = (codes "a", codes "a", ((refl, tt), omega arith, refl));
  never = λ t w k x s f cut head. word_never text t k x e s.0 cut head;
}

pub reads_word : {text : List ℕ} → Reads word (Stops is_name_byte) text (word_at text)
unfolding word_at is_kind
reads_word {text} = record {
  is = word_once text (next_is starts_name text) refl;
  some = record { text = codes "a"; value = codes "a"; is = ((refl, tt), omega arith, refl) };
}

-- behind a name, and behind a reserved word
abbrev pub behind_word : {W : Type 0} → (List ℕ → Grammar W) → (List ℕ → Grammar W) → List ℕ → Grammar W
behind_word k s w = given (is_reserved w ≡ false) (k w) ∣ given (is_reserved w ≡ true) (s w)

longer : (a b : List ℕ) → length (a ++ b) ≤ 8 → length (a ++ b) ≤ 255
longer a b le = omega arith

free_from : (t : List ℕ) → IsBare t → (b : Bool) → is_reserved t ≡ b → b ≡ false
free_from t bare true e = absurd (bare.1 (reserved_cases t e))
free_from t bare false e = refl

word_goes_on : {W : Type 0} (k s : List ℕ → Grammar W) → ((w : List ℕ) → HasText (k w)) → (t : List ℕ) → IsWord t → length t ≤ 255 → (b : Bool) → is_reserved t ≡ b
    → (rest : List ℕ) × (v : W) × Sequence word (behind_word k s) (t ++ rest) v
word_goes_on k s more t is le false e =
    let m = more t in
    (m.text, m.value, record { front = t; back = m.text; met = t; parts = refl; in_first = (is, le, refl); in_second = inl (e, m.is) })
word_goes_on k s more t is le true e =
    let on = reserved_goes_on t (reserved_cases t e) in
    let m = more (t ++ codes "0") in
    (codes "0" ++ m.text, m.value, record { front = t ++ codes "0"; back = m.text; met = t ++ codes "0"; parts = sym (append_assoc t (codes "0") m.text); in_first = (on.0.0, longer t (codes "0") on.1, refl); in_second = inl (free_from (t ++ codes "0") on.0 (is_reserved (t ++ codes "0")) refl, m.is) })

same_given : {W : Type 0} (k s : List ℕ → Grammar W) (w : List ℕ) → is_reserved w ≡ false → Same (k w) (behind_word k s w)
same_given k s w free = record {
  to = λ t v x. inl (free, x);
  back = λ t v x. elim x [ inl l ↦ l.1 | inr r ↦ absurd (let a = r.0 in cc) ];
}

same_special : {W : Type 0} (k s : List ℕ → Grammar W) (w : List ℕ) → is_reserved w ≡ true → Same (s w) (behind_word k s w)
same_special k s w taken = record {
  to = λ t v x. inr (taken, x);
  back = λ t v x. elim x [ inl l ↦ absurd (let a = l.0 in cc) | inr r ↦ r.1 ];
}

-- what is read behind a reserved word: the text that it opens, or a fault at once
abbrev pub Opens : {W : Type 0} → Grammar W → Follow W → List ℕ → Outcome W → Type 0
Opens g G rest r = Reads g G rest r ⊎ ((r ≡ Err (length rest)) × ((t : List ℕ) (v : _) → g t v → ⊥))

after_word : {W : Type 0} (k s : List ℕ → Grammar W) (G : Follow W) (q : List ℕ × List ℕ → Outcome W)
    → ((w rest : List ℕ) → is_reserved w ≡ false → Reads (k w) G rest (q (w, rest))) → ((w rest : List ℕ) → is_reserved w ≡ true → Opens (s w) G rest (q (w, rest)))
    → (w rest : List ℕ) (b : Bool) → is_reserved w ≡ b
    → IsExact (behind_word k s w) G rest (q (w, rest)) ⊎ ((q (w, rest) ≡ Err (length rest)) × ((t : List ℕ) (v : W) → behind_word k s w t v → ⊥))
after_word k s G q free taken w rest false e = inl (exact_same (k w) (behind_word k s w) G rest (q (w, rest)) (same_given k s w e) (free w rest e).is)
after_word k s G q free taken w rest true e = elim (taken w rest e) [
  | inl d ↦ inl (exact_same (s w) (behind_word k s w) G rest (q (w, rest)) (same_special k s w e) d.is)
  | inr d ↦ inr (d.0, λ t v x. d.1 t v ((same_special k s w e).back t v x))
]

pub reads_words : {W : Type 0} {k s : List ℕ → Grammar W} {G : Follow W} {text : List ℕ} (q : List ℕ × List ℕ → Outcome W)
    → ((w : List ℕ) → HasText (k w)) → ((w : List ℕ) → FirstIs (behind_word k s w) G is_name_byte false)
    → ((w rest : List ℕ) → is_reserved w ≡ false → Reads (k w) G rest (q (w, rest))) → ((w rest : List ℕ) → is_reserved w ≡ true → Opens (s w) G rest (q (w, rest)))
    → Reads (word >>= behind_word k s) G text (and_then (word_at text) q)
reads_words {W} {k} {s} {G} {text} q more apart free taken =
    let a = reads_word {text = text} in
    let on = word_goes_on k s more (codes "a") (refl, tt) (omega arith) false refl in
    record {
      is = exact_then_stuck word (behind_word k s) (Stops is_name_byte) G text (word_at text) q a.is (λ w rest front cut f. after_word k s G q free taken w rest (is_reserved w) refl)
          (λ t v f. word_goes_on k s more t f.0 f.1 (is_reserved t) refl) (λ w t v x y f. (apart w).is t v x y f);
      some = record { text = codes "a" ++ on.0; value = on.1; is = on.2 };
    }

-- ---- laws

pub same_bare : {W : Type 0} {k : List ℕ → Grammar W} → Same (bare 255 >>= k) (word >>= λ w. given (is_reserved w ≡ false) (k w))
same_bare {W} {k} = record {
  to = λ t v s.
      let free : is_reserved s.met ≡ false = subst (λ (a : List ℕ). is_reserved a ≡ false) (sym s.in_first.2) (free_from s.front s.in_first.0 (is_reserved s.front) refl) in
      record { front = s.front; back = s.back; met = s.met; parts = s.parts; in_first = (s.in_first.0.0, s.in_first.1, s.in_first.2); in_second = (free, s.in_second) };
  back = λ t v s.
      let free : is_reserved s.front ≡ false = subst (λ (a : List ℕ). is_reserved a ≡ false) s.in_first.2 s.in_second.0 in
      record { front = s.front; back = s.back; met = s.met; parts = s.parts; in_first = (bare_of s.front s.in_first.0 free, s.in_first.1, s.in_first.2); in_second = s.in_second.1 };
}

-- a reserved word with what it opens
abbrev pub opened : {W : Type 0} → List ℕ → List ℕ → Grammar W → List ℕ → Grammar W
opened key more g w = given (w ≡ key) (literal more >> g)

pub same_key : {W : Type 0} {g : Grammar W} (key more : List ℕ) → IsWord key → length key ≤ 255 → is_reserved key ≡ true
    → Same (literal (key ++ more) >> g) (word >>= λ w. given (is_reserved w ≡ true) (opened key more g w))
same_key {W} {g} key more is le taken = record {
  to = λ t v s. record {
    front = key;
    back = more ++ s.back;
    met = key;
    parts = s.parts ∙ ap (λ (a : List ℕ). a ++ s.back) s.in_first ∙ append_assoc key more s.back;
    in_first = (is, le, refl);
    in_second = (taken, (refl, record { front = more; back = s.back; met = tt; parts = refl; in_first = refl; in_second = s.in_second }));
  };
  back = λ t v s.
      let p = s.in_second.1.1 in
      let front-is : s.front ≡ key = sym s.in_first.2 ∙ s.in_second.1.0 in
      record {
        front = key ++ more;
        back = p.back;
        met = tt;
        parts = s.parts ∙ ap (λ (a : List ℕ). a ++ s.back) front-is ∙ ap (λ (a : List ℕ). key ++ a) (p.parts ∙ ap (λ (a : List ℕ). a ++ p.back) p.in_first) ∙ sym (append_assoc key more p.back);
        in_first = refl;
        in_second = p.in_second;
      };
}

same_given_key : {W : Type 0} (w key : List ℕ) (g : Grammar W) → w ≡ key → Same g (given (w ≡ key) g)
same_given_key w key g e = record { to = λ t v x. (e, x); back = λ t v x. x.1 }

-- one word opens something: its text is read behind it, and behind another reserved word nothing goes on
opens_at : {W : Type 0} (key : List ℕ) (g : Grammar W) (G : Follow W) (w rest : List ℕ) (o z : Outcome W) (b : Bool) → bytes_eq w key ≡ b → is_reserved w ≡ true → Reads g G rest o
    → Opens (given (w ≡ key) g) G rest (cond b o (cond (is_reserved w) (Err (length rest)) z))
opens_at key g G w rest o z true e taken d = inl (reads_same (same_given_key w key g (same_text w key e)) d)
opens_at key g G w rest o z false e taken d = inr (ap (λ (a : Bool). cond a (Err (length rest)) z) taken, λ t v x. is_not w key e x.0)

pub opens_one : {W : Type 0} {key : List ℕ} {g : Grammar W} {G : Follow W} {w rest : List ℕ} {o : Outcome W} (z : Outcome W) → is_reserved w ≡ true → Reads g G rest o
    → Opens (given (w ≡ key) g) G rest (cond (bytes_eq w key) o (cond (is_reserved w) (Err (length rest)) z))
opens_one {W} {key} {g} {G} {w} {rest} {o} z taken d = opens_at key g G w rest o z (bytes_eq w key) refl taken d

differs_at : (key : List ℕ) → is_reserved key ≡ true → (w : List ℕ) → is_reserved w ≡ false → (b : Bool) → bytes_eq w key ≡ b → b ≡ false
differs_at key taken w free true e = absurd (let a = ap is_reserved (same_text w key e) in let no' : false ≡ true = sym free ∙ a ∙ taken in cc)
differs_at key taken w free false e = refl

pub differs_from : (key w : List ℕ) → is_reserved key ≡ true → is_reserved w ≡ false → bytes_eq w key ≡ false
differs_from key w taken free = differs_at key taken w free (bytes_eq w key) refl

pub first_word : {G : Follow (List ℕ)} → FirstIs word G starts_name true
first_word = record { is = λ t w k s f. first_of_word t k s.0 }

opens_same : {W : Type 0} {g g' : Grammar W} {G : Follow W} {rest : List ℕ} {r : Outcome W} → Same g g' → Opens g G rest r → Opens g' G rest r
opens_same same (inl d) = inl (reads_same same d)
opens_same same (inr d) = inr (d.0, λ t v x. d.1 t v (same.back t v x))

opens_more_at : {W : Type 0} (key : List ℕ) (g h : Grammar W) (G : Follow W) (w rest : List ℕ) (o r : Outcome W) (b : Bool) → bytes_eq w key ≡ b → (w ≡ key → (t : List ℕ) (v : W) → h t v → ⊥) → Reads g G rest o → Opens h G rest r
    → Opens (given (w ≡ key) g ∣ h) G rest (cond b o r)
opens_more_at key g h G w rest o r true e apart d others =
    let here = same_text w key e in
    inl (reads_same record { to = λ t v x. inl (here, x); back = λ t v x. elim x [ inl l ↦ l.1 | inr y ↦ absurd (apart here t v y) ] } d)
opens_more_at key g h G w rest o r false e apart d others = opens_same (same_sym (same_without (λ x. is_not w key e x))) others

-- one word more that opens something
pub opens_more : {W : Type 0} {key : List ℕ} {g h : Grammar W} {G : Follow W} {w rest : List ℕ} {o : Outcome W} (r : Outcome W) → (w ≡ key → (t : List ℕ) (v : W) → h t v → ⊥) → Reads g G rest o → Opens h G rest r
    → Opens (given (w ≡ key) g ∣ h) G rest (cond (bytes_eq w key) o r)
opens_more {W} {key} {g} {h} {G} {w} {rest} {o} r apart d others = opens_more_at key g h G w rest o r (bytes_eq w key) refl apart d others

-- ---- what was read is a word

pub read_is_word : (text w rest : List ℕ) → word_at text ≡ Ok (w, rest) → IsWord w × (length w ≤ 255)
read_is_word text w rest e =
    let fits = (read_of w rest reads_word e).fits in
    (subst (λ (a : List ℕ). IsWord a) (sym fits.2) fits.0, subst (λ (a : List ℕ). length a ≤ 255) (sym fits.2) fits.1)

pub run_is_word : (text w rest : List ℕ) → next_is (is_kind Starting) text ≡ true → (w, rest) ≡ run_at (is_kind Naming) 255 text → IsWord w × (length w ≤ 255)
unfolding word_at
run_is_word text w rest start e = read_is_word text w rest (rw start (ap (λ (x : List ℕ × List ℕ). Ok x) (sym e)))
