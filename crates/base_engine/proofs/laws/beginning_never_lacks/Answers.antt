use Rattle.base_engine.proofs.Generations.{beginning_never_lacks}
use Rattle.base_engine.proofs.laws.beginning_never_lacks.Goals as goal

pub returns : goal.returns
returns c = beginning_never_lacks
