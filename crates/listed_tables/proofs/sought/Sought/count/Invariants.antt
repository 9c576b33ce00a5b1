use Rattle.std.proofs.Common.{take, ◌≤◌}
use Rattle.dl_base.specs.Tables.{AreCounted}
use Rattle.listed_tables.specs.Listed.{IsGivenBy}
use Rattle.listed_tables.proofs.sought.Sought.count.Given as goal

abbrev pub invariant-loop-i : goal.invariant-loop-i
invariant-loop-i l = AreCounted (IsGivenBy l.self (take l.i l.rows)) l.count × (l.count ≤ l.i)
