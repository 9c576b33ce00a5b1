use Rattle.join_ops.proofs.SourceLemmas.{fixed_more, levels_more}
use Rattle.join_ops.proofs.level.levels.Goals as goal

pub loop-level-preserved : goal.loop-level-preserved
loop-level-preserved c = record {
  fixed = rw c.in_ok-push.ensures.items (fixed_more c.loop-level.levels.items _ c.args.fixed.now c.loop-level.level _ c.loop-level-test.true c.loop-level.invariant.fixed c.source_of-source.ensures.fixed);
  each = rw c.in_ok-push.ensures.items (levels_more c.args.conditions.now c.loop-level.levels.items _ c.args.fixed.now c.loop-level.level c.loop-level-test.true c.loop-level.invariant.fixed c.loop-level.invariant.each (record { source_is = c.source_of-source.ensures.source; checks_are = c.in_ok-checks.ensures }));
}
