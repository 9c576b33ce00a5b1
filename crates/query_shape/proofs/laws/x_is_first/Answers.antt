use Rattle.query_shape.proofs.MatchLemmas.{x_is_first}
use Rattle.query_shape.proofs.laws.x_is_first.Goals as goal

pub returns : goal.returns
returns c = x_is_first
