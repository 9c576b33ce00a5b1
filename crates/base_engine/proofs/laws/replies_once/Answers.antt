use Rattle.base_engine.proofs.StepsOnce.{replies_once}
use Rattle.base_engine.proofs.laws.replies_once.Goals as goal

pub returns : goal.returns
returns c = replies_once
