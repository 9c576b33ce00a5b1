-- Blanks behind blanks are blanks.
use Rattle.std.proofs.Common.{ℕ, Bool, List, [], ◌∷◌, ◌++◌, refl, sym, ap, ◌∙◌, append_assoc}
use Rattle.grammar.specs.Bytes.{is_blank}
use Rattle.grammar.specs.Grammar.{Grammar, ◌>>◌, ◌∣◌}
use Rattle.grammar.specs.Blanks.{blanks}
use Rattle.grammar.proofs.Exact.{Same, same_trans, same_sym, same_refl, same_front, same_either}
use Rattle.grammar.proofs.Parts.{Every}

every_append : (p : ℕ → Bool) (a b : List ℕ) → Every p a → Every p b → Every p (a ++ b)
every_append p [] b x y = y
every_append p (c ∷ a) b x y = (x.0, every_append p a b x.1 y)

pub same_blanks : {W : Type 0} {g : Grammar W} → Same (blanks >> (blanks >> g)) (blanks >> g)
same_blanks {W} {g} = record {
  to = λ t w s.
      let b = s.in_second in
      record { front = s.front ++ b.front; back = b.back; met = s.front ++ b.front; parts = s.parts ∙ ap (λ (a : List ℕ). s.front ++ a) b.parts ∙ sym (append_assoc s.front b.front b.back); in_first = (every_append is_blank s.front b.front s.in_first.0 b.in_first.0, refl); in_second = b.in_second };
  back = λ t w s. record { front = []; back = t; met = []; parts = refl; in_first = (tt, refl); in_second = s };
}

-- a choice behind blanks, of which one way begins with blanks, is decided by the byte behind all of them
pub absorb : {W : Type 0} {g h : Grammar W} → Same (blanks >> (g ∣ (blanks >> h))) (blanks >> (g ∣ h))
absorb = same_trans same_front (same_trans (same_either same_refl same_blanks) (same_sym same_front))
