use Rattle.query_shape.proofs.MatchLemmas.{shape_once}
use Rattle.query_shape.proofs.laws.shape_once.Goals as goal

pub returns : goal.returns
returns c = shape_once
