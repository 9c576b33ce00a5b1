use Rattle.assert_tables.specs.Rows.{individuals_of}
use Rattle.assert_tables.proofs.LeftLemmas.{numbers_left}
use Rattle.assert_tables.proofs.ListedRows.{AreListedUpTo}
use Rattle.assert_tables.proofs.listing.listed.Given as goal

abbrev pub invariant-loop-individual : goal.invariant-loop-individual
invariant-loop-individual l = AreListedUpTo l.rows l.after l.list

abbrev pub decreases-loop-individual : goal.decreases-loop-individual
decreases-loop-individual l = numbers_left l.after (individuals_of l.rows)
