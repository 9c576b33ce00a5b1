use Rattle.base_engine.proofs.Generations.{generations_never_lack}
use Rattle.base_engine.proofs.laws.generations_never_lack.Goals as goal

pub returns : goal.returns
returns c = generations_never_lack
