use Rattle.std.proofs.Common.{All, List, sym, subst, arith}
use Rattle.completion.specs.Numbered.{IsRowOf}
use Rattle.dl_base.specs.declared.row.Row.{Row}
use Rattle.table_report.proofs.tests.base.Goals as goal

pub add-requires : goal.add-requires
add-requires c = subst (λ (rows : List Row). All (IsRowOf c.args.rules.now) rows) (sym c.new-base.ensures) (λ k d below. absurd (omega arith))
