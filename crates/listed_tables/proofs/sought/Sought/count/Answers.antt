use Rattle.std.proofs.Common.{◌≤◌, ◌+◌, take, sym, subst, ◌≡◌, List, arith}
use Rattle.std.proofs.lemmas.List.{take_more}
use Rattle.dl_base.specs.Tables.{AreCounted}
use Rattle.listed_tables.specs.Listed.{IsGivenBy}
use Rattle.listed_tables.specs.declared.tables.ListedRow.{ListedRow}
use Rattle.listed_tables.proofs.GivenLemmas.{byte_upto, counted_more}
use Rattle.listed_tables.proofs.sought.Sought.count.Goals as goal

pub loop-i-preserved : goal.loop-i-preserved
loop-i-preserved c = (
  subst (λ (rows : List ListedRow). AreCounted (IsGivenBy c.args.self rows) (c.loop-i.count + c.from-count.result))
      (sym (take_more c.args.rows.now c.loop-i.i _ c.loop-i-test.true))
      (counted_more c.args.self (take c.loop-i.i c.args.rows.now) _ c.loop-i.count c.from-count.result c.is_new.result c.from-count.ensures c.is_new.ensures.new c.is_new.ensures.old c.loop-i.invariant.0),
  omega (arith, c.loop-i.invariant.1, c.from-count.ensures, byte_upto c.is_new.result),
)
