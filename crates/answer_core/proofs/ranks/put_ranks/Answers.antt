use Rattle.answer_core.proofs.ListLemmas.{mapped_put}
use Rattle.answer_core.proofs.ranks.put_ranks.Goals as goal

pub loop-number-preserved : goal.loop-number-preserved
loop-number-preserved c = mapped_put _ c.args.numbers.now c.loop-number.numbers c.loop-number.number-index c.loop-number.invariant c.loop-number-test.true
