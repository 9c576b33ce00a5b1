use Rattle.std.proofs.Common.{take, sym, subst, ◌≡◌, List, refl}
use Rattle.std.proofs.lemmas.List.{take_all, take_more}
use Rattle.dl_base.specs.Tables.{IsLeastAbove}
use Rattle.listed_tables.specs.Listed.{IsGivenBy}
use Rattle.listed_tables.specs.declared.tables.ListedRow.{ListedRow}
use Rattle.listed_tables.proofs.sought.Sought.least_above.Goals as goal

pub loop-row-preserved : goal.loop-row-preserved
loop-row-preserved c =
    subst (λ (rows : List ListedRow). IsLeastAbove (IsGivenBy c.args.self rows) c.args.after c.lesser-least.result)
    (sym (take_more c.args.rows.now c.loop-row.row-index _ c.loop-row-test.true))
    (c.lesser-least.ensures (take c.loop-row.row-index c.args.rows.now) c.loop-row.invariant)

pub returns : goal.returns
returns c = subst (λ (rows : List ListedRow). IsLeastAbove (IsGivenBy c.args.self rows) c.args.after c.loop-row.least) (take_all c.loop-row.row-index c.args.rows.now c.loop-row-test.false) c.loop-row.invariant
