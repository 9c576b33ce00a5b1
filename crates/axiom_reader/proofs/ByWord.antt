-- Grammars whose texts begin with a word, which may be a name or a keyword, or with an angled name.
use Rattle.std.proofs.Common.{◌≡◌, ℕ, ◌≤◌, true, false, cond, List, [], ◌++◌, length, Ok, Err, refl, sym, ap, ◌∙◌, inl, inr}
use Rattle.std.specs.Str.{bytes_eq}
use Rattle.std.proofs.lemmas.List.{append-nil}
use Rattle.grammar.specs.Bytes.{is_name_byte, starts_name, is_kind}
use Rattle.grammar.specs.declared.bytes.Kind.TheVariants.{Starting}
use Rattle.grammar.specs.Grammar.{Grammar, ◌>>=◌, ◌>>◌, means, ◌∣◌, literal}
use Rattle.grammar.specs.Reading.{Outcome, and_then, next_is}
use Rattle.grammar.proofs.Exact.{Same, same_refl, same_trans, same_sym, same_front, same_either, same_after, same_left, same_assoc, same_spread}
use Rattle.grammar.proofs.Parts.{Stops}
use Rattle.grammar.proofs.Rules.{Reads, HasText, FirstIs, first_literal, first_or, first_then, first_means, reads_any, reads_last, reads_means, reads_or, text_means}
use Rattle.grammar.proofs.Given.{given, first_given, same_taken, reads_false}
use Rattle.dl_base.specs.Names.{IsWord, angled, name, word}
use Rattle.dl_base.specs.NameReading.{is_reserved, word_at, angled_at}
use Rattle.dl_base.proofs.NameRules.{reads_angled}
use Rattle.dl_base.proofs.Words.{behind_word, opened, Opens, opens_one, opens_more, reads_words, same_bare, same_key, differs_from, first_word}

-- ---- laws

-- the first way of three and the last share what is read first
rotate : {V : Type 0} {a b c : Grammar V} → Same ((a ∣ b) ∣ c) ((a ∣ c) ∣ b)
rotate = record {
  to = λ t v s. elim s [ inl l ↦ elim l [ inl a ↦ inl (inl a) | inr b ↦ inr b ] | inr c ↦ inl (inr c) ];
  back = λ t v s. elim s [ inl l ↦ elim l [ inl a ↦ inl (inl a) | inr c ↦ inr c ] | inr b ↦ inl (inr b) ];
}

regroup : {V : Type 0} {a b c : Grammar V} → Same ((a ∣ b) ∣ c) (a ∣ (c ∣ b))
regroup = record {
  to = λ t v s. elim s [ inl l ↦ elim l [ inl a ↦ inl a | inr b ↦ inr (inr b) ] | inr c ↦ inr (inl c) ];
  back = λ t v s. elim s [ inl a ↦ inl (inl a) | inr r ↦ elim r [ inl c ↦ inr c | inr b ↦ inl (inr b) ] ];
}

given_then : {U V : Type 0} {P : Type 0} {g : Grammar U} {m : U → Grammar V} → Same (given P g >>= m) (given P (g >>= m))
given_then = record {
  to = λ t v s. (s.in_first.0, record { front = s.front; back = s.back; met = s.met; parts = s.parts; in_first = s.in_first.1; in_second = s.in_second });
  back = λ t v s. record { front = s.1.front; back = s.1.back; met = s.1.met; parts = s.1.parts; in_first = (s.0, s.1.in_first); in_second = s.1.in_second };
}

same_behind : {U V : Type 0} {m : U → Grammar V} (k s : List ℕ → Grammar U) (w : List ℕ) → Same (behind_word k s w >>= m) (behind_word (λ w. k w >>= m) (λ w. s w >>= m) w)
same_behind k s w = same_trans same_spread (same_either given_then given_then)

-- what stands behind a bare name, behind a reserved word, and behind an angled name
abbrev pub by_word : {W : Type 0} → (List ℕ → Grammar W) → (List ℕ → Grammar W) → (List ℕ → Grammar W) → Grammar W
by_word k s a = (word >>= behind_word k s) ∣ (angled >>= a)

-- a name, or what a keyword opens
pub same_named : {W : Type 0} {f : List ℕ → W} {g : Grammar W} (key more : List ℕ) → IsWord key → length key ≤ 255 → is_reserved key ≡ true
    → Same ((name >>= λ n. means (f n)) ∣ (literal (key ++ more) >> g)) (by_word (λ w. means (f w)) (opened key more g) (λ n. means (f n)))
same_named key more is le taken =
    same_trans (same_either same_spread same_refl) (same_trans rotate (same_either (same_trans (same_either same_bare (same_key key more is le taken)) (same_sym same_front)) same_refl))

-- one keyword more
pub same_lifted : {U W : Type 0} {g : Grammar U} {k s a : List ℕ → Grammar U} {f : U → W} {h : Grammar W} (key more : List ℕ) → IsWord key → length key ≤ 255 → is_reserved key ≡ true → Same g (by_word k s a)
    → Same ((g >>= λ v. means (f v)) ∣ (literal (key ++ more) >> h)) (by_word (λ w. k w >>= λ v. means (f v)) (λ w. opened key more h w ∣ (s w >>= λ v. means (f v))) (λ n. a n >>= λ v. means (f v)))
same_lifted {U} {W} {g} {k} {s} {a} {f} {h} key more is le taken base =
    same_trans (same_either (same_trans (same_left base) (same_trans same_spread (same_either (same_trans same_assoc (same_after (λ w. same_behind k s w))) same_assoc))) same_refl)
    (same_trans rotate (same_either (same_trans (same_either same_refl (same_key key more is le taken)) (same_trans (same_sym same_front) (same_after (λ w. same_trans regroup (same_either same_refl (same_sym same_taken)))))) same_refl))

-- ---- readers

-- what is read behind a bare name, behind a reserved word, and behind an angled name
pub record ReadsBehind {W : Type 0} (k s a : List ℕ → Grammar W) (q qa : List ℕ → List ℕ → Outcome W) : Type 0 where
  pub free : (w rest : List ℕ) → is_reserved w ≡ false → Reads (k w) (Stops is_name_byte) rest (q w rest)
  pub taken : (w rest : List ℕ) → is_reserved w ≡ true → Opens (s w) (Stops is_name_byte) rest (q w rest)
  pub angle : (n rest : List ℕ) → Reads (a n) (Stops is_name_byte) rest (qa n rest)
  pub free_apart : (w : List ℕ) → FirstIs (k w) (Stops is_name_byte) is_name_byte false
  pub taken_apart : (w : List ℕ) → FirstIs (s w) (Stops is_name_byte) is_name_byte false
  pub some : (w : List ℕ) → HasText (k w)

pub reads_by_word : {W : Type 0} {k s a : List ℕ → Grammar W} {q qa : List ℕ → List ℕ → Outcome W} {text : List ℕ} → ReadsBehind k s a q qa
    → Reads (by_word k s a) (Stops is_name_byte) text (cond (next_is (is_kind Starting) text) (and_then (word_at text) (λ w. q w.0 w.1)) (and_then (angled_at text) (λ n. qa n.0 n.1)))
unfolding is_kind
reads_by_word {W} {k} {s} {a} {q} {qa} {text} b =
    reads_or starts_name (first_then first_word) (first_then (first_literal starts_name))
    (reads_words (λ w. q w.0 w.1) b.some (λ w. first_or (first_given (b.free_apart w)) (first_given (b.taken_apart w))) b.free b.taken)
    (reads_any (λ n. qa n.0 n.1) reads_angled b.angle)

pub behind_named : {W : Type 0} {f : List ℕ → W} {g : Grammar W} {o : List ℕ → Outcome W} (key : List ℕ) → is_reserved key ≡ true
    → FirstIs g (Stops is_name_byte) is_name_byte false → ((rest : List ℕ) → Reads g (Stops is_name_byte) rest (o rest))
    → ReadsBehind (λ w. means (f w)) (λ w. given (w ≡ key) g) (λ n. means (f n)) (λ w rest. cond (bytes_eq w key) (o rest) (cond (is_reserved w) (Err (length rest)) (Ok (f w, rest)))) (λ n rest. Ok (f n, rest))
behind_named {W} {f} {g} {o} key reserved apart opens = record {
  free = λ w rest free. reads_false _ _ (differs_from key w reserved free) (reads_false _ _ free reads_means);
  taken = λ w rest taken. opens_one _ taken (opens rest);
  angle = λ n rest. reads_means;
  free_apart = λ w. first_means;
  taken_apart = λ w. first_given apart;
  some = λ w. text_means (f w);
}

-- the value is made of the part's
first_last : {U W : Type 0} {g : Grammar U} {f : U → W} → FirstIs g (Stops is_name_byte) is_name_byte false → FirstIs (g >>= λ v. means (f v)) (Stops is_name_byte) is_name_byte false
first_last {U} {W} {g} {f} a = record {
  is = λ t w k s stops.
      let front-is : t ≡ s.front = s.parts ∙ ap (λ (x : List ℕ). s.front ++ x) s.in_second.0 ∙ append-nil s.front in
      ap (λ (x : List ℕ). next_is is_name_byte (x ++ k)) front-is ∙ a.is s.front s.met k s.in_first stops;
}

opens_last : {U W : Type 0} {g : Grammar U} {f : U → W} {rest : List ℕ} {r : Outcome U} → Opens g (Stops is_name_byte) rest r → Opens (g >>= λ v. means (f v)) (Stops is_name_byte) rest (and_then r (λ x. Ok (f x.0, x.1)))
opens_last (inl d) = inl (reads_last d (λ v k stops. stops))
opens_last {U} {W} {g} {f} (inr d) = inr (ap (λ (r : Outcome U). and_then r (λ x. Ok (f x.0, x.1))) d.0, λ t v s. d.1 s.front s.met s.in_first)

text_last : {U W : Type 0} {g : Grammar U} {f : U → W} → HasText g → HasText (g >>= λ v. means (f v))
text_last {U} {W} {g} {f} a = record { text = a.text; value = f a.value; is = record { front = a.text; back = []; met = a.value; parts = sym (append-nil a.text); in_first = a.is; in_second = (refl, refl) } }

-- one keyword more, which opens nothing below
pub behind_lifted : {U W : Type 0} {k s a : List ℕ → Grammar U} {q qa : List ℕ → List ℕ → Outcome U} {f : U → W} {g : Grammar W} {o : List ℕ → Outcome W} (key : List ℕ) → is_reserved key ≡ true
    → ((w : List ℕ) → w ≡ key → (t : List ℕ) (v : U) → s w t v → ⊥)
    → FirstIs g (Stops is_name_byte) is_name_byte false → ((rest : List ℕ) → Reads g (Stops is_name_byte) rest (o rest)) → ReadsBehind k s a q qa
    → ReadsBehind (λ w. k w >>= λ v. means (f v)) (λ w. given (w ≡ key) g ∣ (s w >>= λ v. means (f v))) (λ n. a n >>= λ v. means (f v))
    (λ w rest. cond (bytes_eq w key) (o rest) (and_then (q w rest) (λ x. Ok (f x.0, x.1)))) (λ n rest. and_then (qa n rest) (λ x. Ok (f x.0, x.1)))
behind_lifted {U} {W} {k} {s} {a} {q} {qa} {f} {g} {o} key reserved new apart opens b = record {
  free = λ w rest free. reads_false _ _ (differs_from key w reserved free) (reads_last (b.free w rest free) (λ v k stops. stops));
  taken = λ w rest taken. opens_more _ (λ e t v x. new w e x.front x.met x.in_first) (opens rest) (opens_last (b.taken w rest taken));
  angle = λ n rest. reads_last (b.angle n rest) (λ v k stops. stops);
  free_apart = λ w. first_last (b.free_apart w);
  taken_apart = λ w. first_or (first_given apart) (first_last (b.taken_apart w));
  some = λ w. text_last (b.some w);
}
