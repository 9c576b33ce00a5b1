-- Readers of roles, basic concepts and sides are exact.
use Rattle.std.proofs.Common.{◌≡◌, ℕ, Bool, true, false, List, [], ◌∷◌, refl, sym, ◌∙◌, ap, arith, inl, inr, Ok, ◌++◌}
use Rattle.std.specs.Prelude.{codes}
use Rattle.grammar.specs.Bytes.{is_blank, is_name_byte, starts_name}
use Rattle.grammar.specs.Blanks.{blanks}
use Rattle.grammar.specs.Grammar.{Grammar, ◌>>=◌, ◌>>◌, ◌∣◌, means, literal}
use Rattle.grammar.specs.Reading.{next_is}
use Rattle.grammar.proofs.Exact.{Follow, Same, same_sym}
use Rattle.grammar.proofs.Parts.{Stops}
use Rattle.grammar.proofs.ByteKinds.{apart_from, starting_not_blank, blank_not}
use Rattle.grammar.proofs.Rules.{Reads, FirstIs, first_literal, first_literal_is, first_or, first_then, first_means, first_blanks, reads_stop, reads_any, reads_literal, reads_blanks, reads_means, reads_same}
use Rattle.dl_base.specs.Names.{name}
use Rattle.dl_base.specs.declared.axiom.NamedRole.{NamedRole}
use Rattle.dl_base.specs.declared.axiom.NamedBasic.{NamedBasic}
use Rattle.dl_base.specs.declared.axiom.NamedBasic.TheVariants.{Concept, Exists}
use Rattle.dl_base.proofs.NameRules.{is_not, first_name, reads_name}
use Rattle.dl_base.proofs.Words.{opened}
use Rattle.axiom_reader.specs.declared.tree.RightSide.{RightSide}
use Rattle.axiom_reader.specs.declared.tree.RightSide.TheVariants.{Members, Nothing}
use Rattle.axiom_reader.specs.AxiomGrammar.{role, basic, left, right}
use Rattle.axiom_reader.specs.AxiomReading.{direct, inverse_at, role_at, exists_at, basic_behind_at, basic_at, conjunction_at, left_behind_at, left_at, right_behind_at, right_at}
use Rattle.axiom_reader.proofs.ByWord.{by_word, same_named, same_lifted, ReadsBehind, reads_by_word, behind_named, behind_lifted}
use Rattle.axiom_reader.proofs.ItemRules.{IsItem, listed, reads_listed, first_listed}

-- ---- roles

abbrev inverse_body : Grammar NamedRole
inverse_body = blanks >> (name >>= λ n. blanks >> (literal (codes ")") >> means (record { name = n; inverse = true })))

reads_inverse : (text : List ℕ) → Reads (literal (codes "(") >> inverse_body) (Stops is_name_byte) text (inverse_at text)
unfolding inverse_at
reads_inverse text =
    reads_any _ reads_literal (λ _ rest.
    reads_stop _ reads_blanks (λ _. first_then (first_name starting_not_blank refl)) (λ _ rest.
    reads_stop _ reads_name (λ n. first_blanks (blank_not is_name_byte refl refl) (λ _. first_literal is_name_byte)) (λ n rest.
    reads_stop _ reads_blanks (λ _. first_literal is_blank) (λ _ rest.
    reads_any _ reads_literal (λ _ rest.
    reads_means)))))

pub reads_role : {text : List ℕ} → Reads role (Stops is_name_byte) text (role_at text)
unfolding role_at
reads_role =
    reads_same (same_sym (same_named (codes "Inv") (codes "(") (refl, (refl, (refl, tt))) (omega arith) refl))
    (reads_by_word (behind_named {f = direct} (codes "Inv") refl (first_literal is_name_byte) reads_inverse))

pub first_role : {p : ℕ → Bool} {G : Follow NamedRole} → ((c : ℕ) → starts_name c ≡ true → p c ≡ false) → p 60 ≡ false → p 73 ≡ false → FirstIs role G p false
first_role apart angle i = first_or (first_then (first_name apart angle)) (first_literal_is i)

-- ---- basic concepts

abbrev exists_body : Grammar NamedBasic
exists_body = blanks >> (role >>= λ r. blanks >> (literal (codes ")") >> means (Exists r)))

reads_exists : (text : List ℕ) → Reads (literal (codes "(") >> exists_body) (Stops is_name_byte) text (exists_at text)
unfolding exists_at
reads_exists text =
    reads_any _ reads_literal (λ _ rest.
    reads_stop _ reads_blanks (λ _. first_then (first_role starting_not_blank refl refl)) (λ _ rest.
    reads_stop _ reads_role (λ r. first_blanks (blank_not is_name_byte refl refl) (λ _. first_literal is_name_byte)) (λ r rest.
    reads_stop _ reads_blanks (λ _. first_literal is_blank) (λ _ rest.
    reads_any _ reads_literal (λ _ rest.
    reads_means)))))

abbrev basic_free : List ℕ → Grammar NamedBasic
basic_free w = means (Concept w)

abbrev basic_taken : List ℕ → Grammar NamedBasic
basic_taken = opened (codes "Some") (codes "(") exists_body

same_basic : Same basic (by_word basic_free basic_taken basic_free)
same_basic = same_named (codes "Some") (codes "(") (refl, (refl, (refl, (refl, tt)))) (omega arith) refl

basic_behind : ReadsBehind basic_free basic_taken basic_free basic_behind_at (λ n rest. Ok (Concept n, rest))
unfolding basic_behind_at
basic_behind = behind_named (codes "Some") refl (first_literal is_name_byte) reads_exists

pub reads_basic : {text : List ℕ} → Reads basic (Stops is_name_byte) text (basic_at text)
unfolding basic_at
reads_basic = reads_same (same_sym same_basic) (reads_by_word basic_behind)

first_basic : {p : ℕ → Bool} {G : Follow NamedBasic} → ((c : ℕ) → starts_name c ≡ true → p c ≡ false) → p 60 ≡ false → p 83 ≡ false → FirstIs basic G p false
first_basic apart angle s = first_or (first_then (first_name apart angle)) (first_literal_is s)

basic_item : IsItem basic basic_at
basic_item = record {
  reads = λ text. reads_basic;
  not_blank = first_basic starting_not_blank refl refl;
  not_close = first_basic (λ c h. apart_from starts_name 41 c refl h) refl refl;
}

-- ---- left sides

abbrev and_body : Grammar (List NamedBasic)
and_body = blanks >> (basic >>= λ b. listed basic (λ bs. b ∷ bs))

reads_conjunction : (text : List ℕ) → Reads (literal (codes "(") >> and_body) (Stops is_name_byte) text (conjunction_at text)
unfolding conjunction_at
reads_conjunction text =
    reads_any _ reads_literal (λ _ rest.
    reads_stop _ reads_blanks (λ _. first_then (first_basic starting_not_blank refl refl)) (λ _ rest.
    reads_stop _ reads_basic (λ b. first_listed) (λ b rest.
    reads_listed basic_item)))

abbrev left_free : List ℕ → Grammar (List NamedBasic)
left_free w = basic_free w >>= λ b. means (b ∷ [])

abbrev left_taken : List ℕ → Grammar (List NamedBasic)
left_taken w = opened (codes "And") (codes "(") and_body w ∣ (basic_taken w >>= λ b. means (b ∷ []))

same_left_side : Same left (by_word left_free left_taken left_free)
same_left_side = same_lifted (codes "And") (codes "(") (refl, (refl, (refl, tt))) (omega arith) refl same_basic

left_behind : ReadsBehind left_free left_taken left_free left_behind_at (λ n rest. Ok (Concept n ∷ [], rest))
unfolding left_behind_at
left_behind = behind_lifted (codes "And") refl (λ w e t v s. is_not (codes "And") (codes "Some") refl (sym e ∙ s.0)) (first_literal is_name_byte) reads_conjunction basic_behind

pub reads_left : {text : List ℕ} → Reads left (Stops is_name_byte) text (left_at text)
unfolding left_at
reads_left = reads_same (same_sym same_left_side) (reads_by_word left_behind)

pub first_left : {p : ℕ → Bool} {G : Follow (List NamedBasic)} → ((c : ℕ) → starts_name c ≡ true → p c ≡ false) → p 60 ≡ false → p 83 ≡ false → p 65 ≡ false → FirstIs left G p false
first_left apart angle s a = first_or (first_then (first_basic apart angle s)) (first_literal_is a)

pub left_item : IsItem left left_at
left_item = record {
  reads = λ text. reads_left;
  not_blank = first_left starting_not_blank refl refl refl;
  not_close = first_left (λ c h. apart_from starts_name 41 c refl h) refl refl refl;
}

-- ---- right sides

-- the empty text, as a literal
first_empty : {W : Type 0} {h : Unit {0} → Grammar W} {G : Follow W} {p : ℕ → Bool} {answer : Bool} → ((u : Unit {0}) → FirstIs (h u) G p answer) → FirstIs (literal [] >>= h) G p answer
first_empty {W} {h} {G} {p} a = record { is = λ t w k s f. ap (λ (x : List ℕ). next_is p (x ++ k)) (s.parts ∙ ap (λ (x : List ℕ). x ++ s.back) s.in_first) ∙ (a s.met).is s.back w k s.in_second f }

reads_nothing : (text : List ℕ) → Reads (literal [] >> means Nothing) (Stops is_name_byte) text (Ok (Nothing, text))
reads_nothing text = reads_any (λ x. Ok (Nothing, x.1)) reads_literal (λ _ rest. reads_means)

-- the keywords of left sides are others than `nothing`
no_left : (w : List ℕ) → w ≡ codes "nothing" → (t : List ℕ) (v : List NamedBasic) → left_taken w t v → ⊥
no_left w e t v (inl s) = is_not (codes "nothing") (codes "And") refl (sym e ∙ s.0)
no_left w e t v (inr s) = is_not (codes "nothing") (codes "Some") refl (sym e ∙ s.in_first.0)

right_behind : ReadsBehind (λ w. left_free w >>= λ l. means (Members l)) (λ w. opened (codes "nothing") [] (means Nothing) w ∣ (left_taken w >>= λ l. means (Members l))) (λ w. left_free w >>= λ l. means (Members l))
    right_behind_at (λ n rest. Ok (Members (Concept n ∷ []), rest))
unfolding right_behind_at
right_behind = behind_lifted (codes "nothing") refl no_left (first_empty (λ _. first_means)) reads_nothing left_behind

pub reads_right : {text : List ℕ} → Reads right (Stops is_name_byte) text (right_at text)
unfolding right_at
reads_right = reads_same (same_sym (same_lifted (codes "nothing") [] (refl, (refl, (refl, (refl, (refl, (refl, (refl, tt))))))) (omega arith) refl same_left_side)) (reads_by_word right_behind)

pub first_right : {p : ℕ → Bool} {G : Follow RightSide} → ((c : ℕ) → starts_name c ≡ true → p c ≡ false) → p 60 ≡ false → p 83 ≡ false → p 65 ≡ false → p 110 ≡ false → FirstIs right G p false
first_right apart angle s a n = first_or (first_then (first_left apart angle s a)) (first_literal_is n)
