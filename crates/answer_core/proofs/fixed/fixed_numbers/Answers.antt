use Rattle.std.proofs.Common.{◌+◌, List, Option, ℕ, take, subst, sym}
use Rattle.std.specs.List.{AllZip}
use Rattle.answer_core.specs.Binding.{IsFixedTerm}
use Rattle.answer_core.proofs.ListLemmas.{zip_more}
use Rattle.answer_core.proofs.fixed.fixed_numbers.Goals as goal

pub loop-number-preserved : goal.loop-number-preserved
loop-number-preserved c =
    subst (λ (ys : List (Option ℕ)). AllZip (IsFixedTerm c.args.individuals.now) (take (c.loop-number.number + 1) c.args.shape.now.terms) ys) (sym c.in_ok-push.ensures.items)
    (zip_more (IsFixedTerm c.args.individuals.now) c.args.shape.now.terms c.loop-number.fixed.items c.loop-number.number c.term.result.now c.fixed_number.result
    c.loop-number.invariant c.term.ensures c.fixed_number.ensures)
