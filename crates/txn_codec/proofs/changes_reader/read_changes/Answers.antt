use Rattle.std.proofs.Common.{sym, ◌∙◌}
use Rattle.txn_codec.proofs.changes_reader.read_changes.Goals as goal

pub returns-in-Ok-clause-only : goal.returns-in-Ok-clause-only
returns-in-Ok-clause-only c = λ others is. c.in_ok-reader.ensures.only others is ∙ sym c.in-Ok.ensures
