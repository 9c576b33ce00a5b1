use Rattle.kept_base.proofs.StandsForLemmas.{stands_for_alike}
use Rattle.kept_base.proofs.laws.stands_for_alike.Goals as goal

pub returns : goal.returns
returns c = stands_for_alike
