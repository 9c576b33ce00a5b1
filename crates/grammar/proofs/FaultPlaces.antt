-- A text has one place of its fault.
use Rattle.std.proofs.Common.{◌≡◌, ℕ, ◌+◌, ◌<◌, ◌≤◌, List, ◌++◌, length, take, drop, sym, ap, subst, ◌∙◌, append_assoc, arith, inl, inr}
use Rattle.std.proofs.lemmas.Bool.{cases_lt}
use Rattle.std.proofs.lemmas.List.{take-append-drop, take-append-le, length-take}
use Rattle.grammar.specs.Grammar.{Grammar, Begins, IsFaultAt}

-- what begins a text of the grammar does so with fewer bytes
pub begins_less : {V : Type 0} (g : Grammar V) (text : List ℕ) (n m : ℕ) → m ≤ n → n ≤ length text → Begins g (take n text) → Begins g (take m text)
begins_less g text n m le within b =
    let front : take m (take n text) ≡ take m text =
    sym (take-append-le m (take n text) (drop n text) (omega (arith, le, within, length-take n text))) ∙ ap (λ (a : List ℕ). take m a) (take-append-drop n text) in
    let cut : take m text ++ (drop m (take n text) ++ b.0) ≡ take n text ++ b.0 =
    ap (λ (a : List ℕ). a ++ (drop m (take n text) ++ b.0)) (sym front) ∙ sym (append_assoc (take m (take n text)) (drop m (take n text)) b.0) ∙ ap (λ (a : List ℕ). a ++ b.0) (take-append-drop m (take n text)) in
    (drop m (take n text) ++ b.0, b.1, subst (λ (a : List ℕ). g a b.1) (sym cut) b.2)

pub not_before : {V : Type 0} (g : Grammar V) (text : List ℕ) (place at : ℕ) → place ≤ length text → Begins g (take place text) → IsFaultAt g text at → place ≤ at
not_before g text place at within b f = elim (cases_lt at place) [
  | inl lt ↦ absurd (f.here (omega (arith, lt, within)) (begins_less g text place (at + 1) (omega (arith, lt)) within b))
  | inr le ↦ le
]

pub fault_once : {V : Type 0} (g : Grammar V) (text : List ℕ) (place at : ℕ) → IsFaultAt g text place → IsFaultAt g text at → place ≡ at
fault_once g text place at f h =
    omega (arith, not_before g text place at f.within f.before h, not_before g text at place h.within h.before f)
