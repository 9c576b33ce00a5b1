use Rattle.join_plan.proofs.LawLemmas.{each_atom_once}
use Rattle.join_plan.proofs.laws.each_atom_once.Goals as goal

pub returns : goal.returns
returns c = each_atom_once
