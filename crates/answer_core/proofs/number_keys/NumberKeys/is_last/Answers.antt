use Rattle.std.proofs.Common.{◌≡◌, ℕ, List, Bool, true, false, IsTrue, Contains, refl, sym, ◌∙◌, subst}
use Rattle.std.specs.Bool.{OnTrue}
use Rattle.answer_core.proofs.KeySets.{last_there}
use Rattle.answer_core.proofs.number_keys.NumberKeys.is_last.Goals as goal

on_true : {A : Type 0} (b : Bool) → (IsTrue b → A) → OnTrue b A
on_true true h = h refl
on_true false h = tt

pub returns-then-self : goal.returns-then-self
returns-then-self c = on_true c.is_same.result (λ same.
    let is : c.self.inside.last.items ≡ c.args.key.now = sym c.as_slice.ensures.value ∙ c.is_same.ensures.0 same in
    subst (λ (keys : List (List ℕ)). Contains keys c.args.key.now) c.self.view_is
    (subst (Contains c.self.inside.keys) is (last_there c.self.inside.has_last c.self.inside.last.items c.self.inside.keys c.if-self.true c.self.invariant)))
