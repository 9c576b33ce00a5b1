use Rattle.std.proofs.Common.{◌++◌, ◌∷◌, [], ℕ, get_or, refl, sym, ◌∙◌, below_more, arith}
use Rattle.std.proofs.lemmas.List.Sorted.{All-permutation, Contains-permutation}
use Rattle.std.proofs.lemmas.Grind.{get_or_default_zero}
use Rattle.std.proofs.lemmas.List.Elements.{All-push, Contains-append_left, Contains-push}
use Rattle.answer_core.specs.Ranks.{HasNumber, HasItsName}
use Rattle.answer_core.proofs.KeyOrderLemmas.{sorted_order}
use Rattle.answer_core.proofs.ranks.by_name.Goals as goal

pub loop-number-preserved : goal.loop-number-preserved
loop-number-preserved c =
    let n = c.loop-number.number-index in
    let order = c.loop-number.order.items in
    record {
      named = rw c.in_ok-push.ensures.items (All-push (HasItsName c.args.individuals.now) order _ c.loop-number.invariant.named c.name-name.ensures);
      each = rw c.in_ok-push.ensures.items (below_more (λ (k : ℕ). HasNumber (order ++ _ ∷ []) (get_or c.args.numbers.now k 0)) n
          (λ k below. let has = c.loop-number.invariant.each k below in (has.0, Contains-append_left order _ has.0 has.1, has.2))
          (_, Contains-push order _, refl));
      count = omega (arith, c.in_ok-push.ensures.len, c.loop-number.invariant.count);
    }

pub returns-clause-in_order : goal.returns-clause-in_order
returns-clause-in_order c = record {
  named = All-permutation (HasItsName c.args.individuals.now) _ _ c.sort_unstable.ensures.permutation c.loop-number.invariant.named;
  in_order = sorted_order _ c.sort_unstable.ensures.sorted;
}

pub returns-clause-each : goal.returns-clause-each
returns-clause-each c = λ n there.
    let has = c.loop-number.invariant.each there.0 (omega (arith, there.1, c.loop-number-test.false)) in
    (has.0, Contains-permutation _ _ has.0 c.sort_unstable.ensures.permutation has.1, has.2 ∙ sym (get_or_default_zero c.args.numbers.now there.0 n there.1) ∙ there.2)
