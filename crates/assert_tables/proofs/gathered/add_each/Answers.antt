use Rattle.std.proofs.Common.{Contains, List, subst}
use Rattle.std.proofs.lemmas.List.{get_or_default}
use Rattle.dl_base.specs.declared.row.Row.{Row}
use Rattle.assert_tables.proofs.GatheredLemmas.{added_all, added_more}
use Rattle.assert_tables.proofs.gathered.add_each.Goals as goal

pub loop-row-preserved : goal.loop-row-preserved
loop-row-preserved c =
    added_more c.args.rows.now c.loop-row.row-index _ c.args.settled.now _ _ c.loop-row-test.true (get_or_default c.args.rows.now c.loop-row.row-index _ _ c.loop-row-test.true) c.in_ok-add.ensures.ok c.loop-row.invariant

pub returns-in_err-add-clause-only : goal.returns-in_err-add-clause-only
returns-in_err-add-clause-only c = λ r there. c.loop-row.invariant.only r (subst (λ (rows : List Row). Contains rows r) c.in_err-add.ensures.err there)

pub returns-clause-added : goal.returns-clause-added
returns-clause-added c = added_all c.args.rows.now c.loop-row.row-index _ _ c.loop-row-test.false c.loop-row.invariant
