use Rattle.std.proofs.Common.{arith}
use Rattle.base_store.proofs.Following.{follows_all, follows_item}
use Rattle.row_changes.proofs.changes.make_changes.Goals as goal

pub loop-change-preserved : goal.loop-change-preserved
loop-change-preserved c = record {
  follows = follows_item c.args.ontology.now c.args.changes.now c.loop-change.change-index c.change-item.result _ _ _ _ _ _ c.loop-change-test.true c.change-item.is c.loop-change.invariant.follows
      c.in_ok-make_change.ensures.follows;
  differ = c.in_ok-make_change.ensures.differ c.args.rows.now c.loop-change.invariant.differ;
  few = omega (arith, c.loop-change.invariant.few, c.in_ok-make_change.ensures.few);
  distinct = c.in_ok-make_change.ensures.distinct;
}

pub returns-clause-follows : goal.returns-clause-follows
returns-clause-follows c = follows_all _ _ _ _ _ _ _ c.loop-change-test.false c.loop-change.invariant.follows
