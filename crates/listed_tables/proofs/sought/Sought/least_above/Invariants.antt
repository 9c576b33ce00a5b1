use Rattle.std.proofs.Common.{take}
use Rattle.dl_base.specs.Tables.{IsLeastAbove}
use Rattle.listed_tables.specs.Listed.{IsGivenBy}
use Rattle.listed_tables.proofs.sought.Sought.least_above.Given as goal

abbrev pub invariant-loop-row : goal.invariant-loop-row
invariant-loop-row l = IsLeastAbove (IsGivenBy l.self (take l.row-index l.rows)) l.after l.least
