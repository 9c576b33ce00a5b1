use Rattle.join_plan.proofs.LawLemmas.{goes_on}
use Rattle.join_plan.proofs.laws.goes_on.Goals as goal

pub returns : goal.returns
returns c = goes_on
