use Rattle.assert_tables.proofs.ListedRows.{ListsSome}
use Rattle.assert_tables.proofs.listing.list_from.Given as goal

abbrev pub invariant-loop-row : goal.invariant-loop-row
invariant-loop-row l = ListsSome l.individual l.initial.row-iterator l.row-iterator l.initial.list l.list
