-- How much of an input was taken.
use Rattle.std.proofs.Common.{◌≡◌, ◌≤◌, ◌+◌, ℕ, List, [], ◌∷◌, ◌++◌, length, Option, Some, refl, sym, ◌∙◌, ap, subst, arith, append_assoc, length-append}
use Rattle.host_io.specs.Source.{Takes, AtEnd}
use Rattle.run_loop.specs.Run.{input_limit, HasTaken, TakesInput}
use Rattle.run_loop.specs.declared.ending.Ending.{Ending}
use Rattle.run_loop.specs.declared.ending.Ending.TheVariants as ending

pub has_none : (input : List ℕ) (left : Option (List ℕ)) → left ≡ Some input → HasTaken input 0 left
has_none input left is = record { read = []; rest = input; parts = refl; is_left = is; count = refl }

pub has_more : (input : List ℕ) (taken : ℕ) (left left' : Option (List ℕ)) (piece : List ℕ) (n : ℕ) → HasTaken input taken left → Takes left left' piece → length piece ≡ n → HasTaken input (taken + n) left'
has_more input taken left left' piece n has takes count =
    let to = takes.told has.rest has.is_left in
    record {
      read = has.read ++ piece;
      rest = to.0;
      parts = has.parts ∙ ap (λ (l : List ℕ). has.read ++ l) to.2 ∙ sym (append_assoc has.read piece to.0);
      is_left = to.1;
      count = omega (arith, length-append has.read piece, has.count, count);
    }

pub takes_within : (e : Ending) (input : List ℕ) (taken : ℕ) (left : Option (List ℕ)) → HasTaken input taken left → taken ≤ input_limit → (e ≡ ending.InputTooLarge → ⊥) → (e ≡ ending.Done → ⊥) → TakesInput e input left
takes_within e input taken left has few large done = record { taken = taken; has = has; large = λ is. absurd (large is); few = λ no. few; all = λ is. absurd (done is) }

pub takes_all : (e : Ending) (input : List ℕ) (taken : ℕ) (left left' : Option (List ℕ)) (piece : List ℕ) → HasTaken input taken left → Takes left left' piece → length piece ≡ 0 → AtEnd left → taken ≤ input_limit → (e ≡ ending.InputTooLarge → ⊥) → TakesInput e input left'
takes_all e input taken left left' piece has takes none end few large =
    let more = has_more input taken left left' piece 0 has takes none in
    let to = takes.told has.rest has.is_left in
    let empty : has.rest ≡ [] = end has.rest has.is_left in
    let over : to.0 ≡ [] = nothing piece to.0 (sym to.2 ∙ empty) in
    record { taken = taken; has = subst (λ (n : ℕ). HasTaken input n left') (omega arith) more; large = λ is. absurd (large is); few = λ no. few; all = λ is. to.1 ∙ ap Some over }
  where
    nothing : (xs ys : List ℕ) → xs ++ ys ≡ [] → ys ≡ []
    nothing [] ys is = is
    nothing (x ∷ xs) ys is = absurd (omega (arith, ap length is))

pub takes_too_much : (e : Ending) (input : List ℕ) (taken : ℕ) (left left' : Option (List ℕ)) (piece : List ℕ) (n : ℕ) → HasTaken input taken left → Takes left left' piece → length piece ≡ n → taken ≡ input_limit → n ≡ 1 → e ≡ ending.InputTooLarge → TakesInput e input left'
takes_too_much e input taken left left' piece n has takes count full one is =
    record { taken = taken + n; has = has_more input taken left left' piece n has takes count; large = λ same. omega (arith, full, one); few = λ no. absurd (no is); all = λ done. absurd (let too = is in cc) }
