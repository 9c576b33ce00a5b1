use Rattle.std.proofs.Common.{arith}
use Rattle.join_plan.proofs.ChoiceLemmas.{names_all, names_more}
use Rattle.join_plan.proofs.known.marked_names.Goals as goal

pub loop-number-preserved : goal.loop-number-preserved
loop-number-preserved c = record {
  count = omega (arith, c.in_ok-push.ensures.len);
  each = rw c.in_ok-push.ensures.items (names_more c.args.s.now c.loop-number.known.items c.loop-number.number c.is_named.result c.term.result.now c.loop-number.invariant.count c.term.ensures c.is_named.ensures c.loop-number.invariant.each);
}

pub returns-clause-each : goal.returns-clause-each
returns-clause-each c = names_all c.args.s.now c.loop-number.known.items c.loop-number.number (omega (arith, c.terms-number-end.ensures.count)) c.loop-number.invariant.count c.loop-number.invariant.each
