use Rattle.assert_tables.proofs.MentionLemmas.{has_row}
use Rattle.assert_tables.proofs.row_set.RowSet.has.Goals as goal

pub returns : goal.returns
returns c = rw (c.contains.ensures, c.first_mention.ensures, ← c.self.view_is) (has_row c.self.inside.mentions c.args.row c.self.invariant)
