use Rattle.assert_tables.specs.Rows.{individuals_of}
use Rattle.assert_tables.proofs.LeftLemmas.{numbers_left}
use Rattle.completion.proofs.AssertedLemmas.{TakenUpTo}
use Rattle.completion.proofs.asserted.role_rows.Given as goal

abbrev pub invariant-loop-individual : goal.invariant-loop-individual
invariant-loop-individual l = TakenUpTo l.rows l.after l.edges.items

abbrev pub decreases-loop-individual : goal.decreases-loop-individual
decreases-loop-individual l = numbers_left l.after (individuals_of l.rows)
