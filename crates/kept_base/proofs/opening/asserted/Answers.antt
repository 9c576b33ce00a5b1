use Rattle.std.specs.Prelude.{◌↔◌, Contains, IfOk, List}
use Rattle.std.proofs.Common.{subst}
use Rattle.dl_base.specs.declared.row.Row.{Row}
use Rattle.kept_base.proofs.opening.asserted.Goals as goal

pub returns : goal.returns
returns c = subst (λ (xs : List Row). IfOk c.of_rows.result (λ (rows : List Row). (r : Row) → Contains rows r ↔ Contains xs r)) c.into_vec.ensures c.of_rows.ensures.rows
