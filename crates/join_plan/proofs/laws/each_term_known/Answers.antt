use Rattle.join_plan.proofs.LawLemmas.{each_term_known}
use Rattle.join_plan.proofs.laws.each_term_known.Goals as goal

pub returns : goal.returns
returns c = each_term_known
