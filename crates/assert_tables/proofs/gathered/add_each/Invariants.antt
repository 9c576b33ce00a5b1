use Rattle.assert_tables.proofs.GatheredLemmas.{AreFirstAdded}
use Rattle.assert_tables.proofs.gathered.add_each.Given as goal

abbrev pub invariant-loop-row : goal.invariant-loop-row
invariant-loop-row l = AreFirstAdded l.row-index l.rows l.initial.settled l.settled
