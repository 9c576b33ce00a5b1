use Rattle.std.proofs.Common.{List, sym, subst}
use Rattle.assert_tables.specs.Naming.{AreRowsNaming}
use Rattle.dl_base.specs.declared.row.Row.{Row}
use Rattle.dl_base.specs.Rows.{numbered_row_cmp}
use Rattle.dl_base.proofs.InOrder.{rising_distinct}
use Rattle.dl_base.proofs.RowLemmas.{numbered_same, numbered_total}
use Rattle.assert_tables.proofs.ListedRows.{ListsSome, lists_all, lists_more}
use Rattle.assert_tables.proofs.listing.list_from.Goals as goal

pub loop-row-preserved : goal.loop-row-preserved
loop-row-preserved c =
    let these = c.into_iter-row-iterator.result in
    let naming = subst (AreRowsNaming c.args.rows.now c.args.individual) (sym c.into_iter-row-iterator.ensures.into_iter_gives) c.rows_naming-row-items.ensures in
    let distinct = rising_distinct numbered_row_cmp numbered_total numbered_same these naming.rising in
    lists_more c.args.individual these c.in-Some.row c.next.new.self c.args.list.now c.loop-row.list c.list_row.new.list distinct
    (subst (λ (left : List Row). ListsSome c.args.individual these left c.args.list.now c.loop-row.list) c.in-Some.ensures.steps c.loop-row.invariant) c.in_ok-list_row.ensures

pub returns : goal.returns
returns c =
    let these = c.into_iter-row-iterator.result in
    let naming = subst (AreRowsNaming c.args.rows.now c.args.individual) (sym c.into_iter-row-iterator.ensures.into_iter_gives) c.rows_naming-row-items.ensures in
    lists_all c.args.individual c.args.rows.now these c.args.list.now c.loop-row.list naming
    (subst (λ (left : List Row). ListsSome c.args.individual these left c.args.list.now c.loop-row.list) c.in-None.ensures.steps.0 c.loop-row.invariant)
