use Rattle.txn_codec.proofs.MeanOnce.{ten_bytes}
use Rattle.txn_codec.proofs.laws.adds_in_ten_bytes.Goals as goal

pub returns : goal.returns
returns c = ten_bytes
