use Rattle.std.proofs.Common.{◌≡◌, ◌++◌, ℕ, List, inr, refl, ◌∙◌, ap, subst}
use Rattle.answer_core.specs.Found.{AddsKey}
use Rattle.answer_core.proofs.KeySets.{has_there}
use Rattle.answer_core.proofs.number_keys.NumberKeys.add.Goals as goal

pub invariant_of-self-2 : goal.invariant_of-self-2
invariant_of-self-2 c =
    let is : c.extend_from_slice.new.self.items ≡ c.args.key.now = c.in_ok-extend_from_slice.ensures.items ∙ ap (λ (xs : List ℕ). xs ++ c.args.key.now) c.clear.ensures.items in
    rw is (has_there c.add.new.self c.args.key.now ((c.in_ok-add.ensures.ok c.args.key.now).1 (inr refl)))

pub returns-clause-ok : goal.returns-clause-ok
returns-clause-ok c = subst (λ (old : List (List ℕ)). AddsKey old c.args.key.now c.add.new.self) c.self.view_is c.in_ok-add.ensures.ok
