-- Kinds of bytes that share no byte.
use Rattle.std.proofs.Common.{◌≡◌, ℕ, Bool, true, false, eqb, refl, sym, ap, ◌∙◌, inl, inr}
use Rattle.std.specs.Prelude.{◌||◌, ◌==◌}
use Rattle.std.proofs.lemmas.Bool.{or_cases, or_from, ne_eqb, eqb-true}
use Rattle.grammar.specs.Bytes.{is_blank, is_letter, is_digit, starts_name, is_name_byte}

starting_is_naming : (letter digit line dash dot : Bool) → (letter || line) ≡ true → (letter || digit || line || dash || dot) ≡ true
starting_is_naming true digit line dash dot e = refl
starting_is_naming false true true dash dot e = refl
starting_is_naming false false true dash dot e = refl
starting_is_naming false digit false dash dot e = absurd cc

-- what a bare name begins with it may go on with
pub naming_from_starting : (c : ℕ) → starts_name c ≡ true → is_name_byte c ≡ true
naming_from_starting c e = starting_is_naming (is_letter c) (is_digit c) (eqb c 95) (eqb c 45) (eqb c 46) e

-- a byte of the kind is not one that the kind lacks
pub apart_from : (p : ℕ → Bool) (k c : ℕ) → p k ≡ false → p c ≡ true → (c == k) ≡ false
apart_from p k c at here = ne_eqb c k (λ e. let yes : p k ≡ true = ap p (sym e) ∙ here in absurd (cc))

pub starting_not_blank : (c : ℕ) → starts_name c ≡ true → is_blank c ≡ false
starting_not_blank c h = or_from (c == 32) (c == 9) (apart_from starts_name 32 c refl h) (apart_from starts_name 9 c refl h)

-- a kind without space and tab has no blank
pub blank_not : (p : ℕ → Bool) → p 32 ≡ false → p 9 ≡ false → (c : ℕ) → is_blank c ≡ true → p c ≡ false
blank_not p a b c h = elim (or_cases (c == 32) (c == 9) h) [
  | inl e ↦ ap p (eqb-true c 32 e) ∙ a
  | inr e ↦ ap p (eqb-true c 9 e) ∙ b
]
