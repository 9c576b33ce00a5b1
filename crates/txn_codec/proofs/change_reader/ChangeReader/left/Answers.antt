use Rattle.std.proofs.Common.{length, sym, ap, ◌∙◌}
use Rattle.txn_codec.specs.ChangesReading.{change_at}
use Rattle.txn_codec.proofs.Skipped.{value_count}
use Rattle.txn_codec.proofs.change_reader.ChangeReader.left.Goals as goal

pub returns : goal.returns
returns c = sym (value_count change_at c.self.inside.left c.self.inside.rest.now c.self.invariant) ∙ ap length c.self.view_is
