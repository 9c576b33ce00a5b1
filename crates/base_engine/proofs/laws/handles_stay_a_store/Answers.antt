use Rattle.base_engine.proofs.HandleLemmas.{handles_stay}
use Rattle.base_engine.proofs.laws.handles_stay_a_store.Goals as goal

pub returns : goal.returns
returns c = handles_stay
