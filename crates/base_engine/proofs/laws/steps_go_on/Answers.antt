use Rattle.base_engine.proofs.RunLemmas.{steps_go_on}
use Rattle.base_engine.proofs.laws.steps_go_on.Goals as goal

pub returns : goal.returns
returns c = steps_go_on
