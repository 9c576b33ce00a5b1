use Rattle.std.proofs.lemmas.List.{get_or_default}
use Rattle.row_changes.proofs.DifferenceLemmas.{removes_all, removes_more, removes_none}
use Rattle.row_changes.proofs.difference.remove_each.Goals as goal

pub loop-row-init : goal.loop-row-init
loop-row-init c = removes_none c.args.list.now c.args.rows.now

pub loop-row-preserved : goal.loop-row-preserved
loop-row-preserved c = removes_more c.args.list.now c.loop-row.row-index _ _ _ _ c.loop-row-test.true (get_or_default c.args.list.now c.loop-row.row-index _ _ c.loop-row-test.true) c.del.ensures.rows c.loop-row.invariant

pub returns : goal.returns
returns c = removes_all c.args.list.now c.loop-row.row-index _ _ c.loop-row-test.false c.loop-row.invariant
