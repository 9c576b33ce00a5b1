use Rattle.assert_tables.proofs.GatheredLemmas.{AreFirstBeside}
use Rattle.assert_tables.proofs.row_set.mentions_of.Given as goal

abbrev pub invariant-loop-row : goal.invariant-loop-row
invariant-loop-row l = AreFirstBeside l.row-index l.rows l.mentions.items
