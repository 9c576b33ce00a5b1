use Rattle.txn_codec.proofs.MeanOnce.{changes_once}
use Rattle.txn_codec.proofs.laws.changes_mean_once.Goals as goal

pub returns : goal.returns
returns c = changes_once
