use Rattle.std.proofs.Common.{take}
use Rattle.answer_core.specs.Found.{SpellsKey}
use Rattle.answer_core.specs.Ranks.{names_by_rank}
use Rattle.answer_core.proofs.rows.spelled_row.Given as goal

abbrev pub invariant-loop-rank : goal.invariant-loop-rank
invariant-loop-rank l = SpellsKey (names_by_rank l.order) (take l.rank-index l.row) l.key.items
