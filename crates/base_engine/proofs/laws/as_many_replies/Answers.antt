use Rattle.base_engine.proofs.RunLemmas.{as_many_replies}
use Rattle.base_engine.proofs.laws.as_many_replies.Goals as goal

pub returns : goal.returns
returns c = as_many_replies
