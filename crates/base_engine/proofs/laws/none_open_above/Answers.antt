use Rattle.base_engine.proofs.RunLemmas.{none_open_above}
use Rattle.base_engine.proofs.laws.none_open_above.Goals as goal

pub returns : goal.returns
returns c = none_open_above
