use Rattle.assert_tables.proofs.SearchLemmas.{none_next, other_next, some_next}
use Rattle.assert_tables.proofs.row_set.RowSet.next_of.Goals as goal

pub returns-in_err-next : goal.returns-in_err-next
returns-in_err-next c = rw (c.from_residual.ensures, ← c.self.view_is) (none_next c.self.inside.mentions.keys c.args.individual c.args.after c.self.invariant (rw (← c.start_of.ensures) c.in_err-next.ensures))

pub returns-then-next-individual : goal.returns-then-next-individual
returns-then-next-individual c = rw (← c.self.view_is) (some_next c.self.inside.mentions.keys c.args.individual c.args.after c.in_ok-next.next c.self.invariant (rw (← c.start_of.ensures) c.in_ok-next.ensures) c.if-next-individual.true)

pub returns-else-next-individual : goal.returns-else-next-individual
returns-else-next-individual c = rw (← c.self.view_is) (other_next c.self.inside.mentions.keys c.args.individual c.args.after c.in_ok-next.next c.self.invariant (rw (← c.start_of.ensures) c.in_ok-next.ensures) c.if-next-individual.false)
