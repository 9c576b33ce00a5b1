use Rattle.std.proofs.Common.{arith}
use Rattle.join_ops.proofs.order.level_in.Goals as goal

pub unreachable-requires : goal.unreachable-requires
unreachable-requires c = let there = c.requires.there in c.loop-level.invariant there.0 c.args.term (omega (arith, there.1, c.loop-level-test.false)) there.2
