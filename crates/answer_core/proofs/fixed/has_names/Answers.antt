use Rattle.std.proofs.Common.{refl, arith}
use Rattle.answer_core.proofs.TermLemmas.{known_names}
use Rattle.answer_core.proofs.fixed.has_names.Goals as goal

pub returns : goal.returns
returns c = (
  λ _. known_names c.args.individuals.now c.args.shape.now.terms (λ k t below. c.loop-number.invariant k t (omega (arith, c.loop-number-test.false, c.terms-number-end.ensures.count))),
  λ _. refl,
)
