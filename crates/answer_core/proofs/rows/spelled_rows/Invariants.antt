use Rattle.std.proofs.Common.{take}
use Rattle.std.specs.List.{AllZip}
use Rattle.answer_core.specs.Found.{SpellsKey}
use Rattle.answer_core.specs.Ranks.{names_by_rank, items_of}
use Rattle.answer_core.proofs.rows.spelled_rows.Given as goal

abbrev pub invariant-loop-row : goal.invariant-loop-row
invariant-loop-row l = AllZip (SpellsKey (names_by_rank l.order)) (take l.row-index (items_of l.rows)) l.keys
