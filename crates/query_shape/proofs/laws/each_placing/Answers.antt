use Rattle.query_shape.proofs.MatchLemmas.{each_placing}
use Rattle.query_shape.proofs.laws.each_placing.Goals as goal

pub returns : goal.returns
returns c = each_placing
