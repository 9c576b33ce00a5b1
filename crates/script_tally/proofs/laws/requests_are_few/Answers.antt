use Rattle.script_tally.proofs.GatherLemmas.{requests_are_few}
use Rattle.script_tally.proofs.laws.requests_are_few.Goals as goal

pub returns : goal.returns
returns c = requests_are_few
