use Rattle.join_plan.proofs.LawLemmas.{matches_by_paths}
use Rattle.join_plan.proofs.laws.matches_by_paths.Goals as goal

pub returns : goal.returns
returns c = matches_by_paths
