use Rattle.std.proofs.Common.{below_more, refl}
use Rattle.answer_core.proofs.answer_list.are_first.Goals as goal

pub loop-level-preserved : goal.loop-level-preserved
loop-level-preserved c = below_more _ _ c.loop-level.invariant (c.if-not-has_level.ensures.0 refl)
