use Rattle.txn_codec.proofs.Lengths.{changes_have_their_length}
use Rattle.txn_codec.proofs.laws.changes_have_their_length.Goals as goal

pub returns : goal.returns
returns c = changes_have_their_length
