use Rattle.query_shape.proofs.MatchLemmas.{same_matches}
use Rattle.query_shape.proofs.laws.same_matches.Goals as goal

pub returns : goal.returns
returns c = same_matches
