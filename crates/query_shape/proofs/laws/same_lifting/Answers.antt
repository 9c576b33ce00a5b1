use Rattle.query_shape.proofs.LiftLemmas.{same_lifting}
use Rattle.query_shape.proofs.laws.same_lifting.Goals as goal

pub returns : goal.returns
returns c = same_lifting
