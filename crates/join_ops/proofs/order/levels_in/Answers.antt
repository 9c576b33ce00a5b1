use Rattle.std.proofs.Common.{subst, sym, arith}
use Rattle.join_ops.specs.Orders.{AreLevelsIn}
use Rattle.join_ops.proofs.OrderLemmas.{levels_of}
use Rattle.join_ops.proofs.order.levels_in.Goals as goal

pub returns : goal.returns
returns c = subst (AreLevelsIn c.args.order.now) (sym c.from_vec.ensures) (levels_of c.args.order.now c.loop-term.levels.items c.requires.within c.requires.distinct (omega (arith, c.loop-term.invariant.count, c.loop-term-test.false, c.loop-term.auto.term-end)) c.loop-term.invariant.each)
