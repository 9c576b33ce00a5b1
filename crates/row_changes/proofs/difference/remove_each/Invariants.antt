use Rattle.std.proofs.Common.{take}
use Rattle.row_changes.specs.Difference.{RemovesEach}
use Rattle.row_changes.proofs.difference.remove_each.Given as goal

abbrev pub invariant-loop-row : goal.invariant-loop-row
invariant-loop-row l = RemovesEach (take l.row-index l.list) l.fn.rows l.rows
