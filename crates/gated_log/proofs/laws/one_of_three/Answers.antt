use Rattle.gated_log.proofs.Every.{is_one_of_three}
use Rattle.gated_log.proofs.laws.one_of_three.Goals as goal

pub returns : goal.returns
returns c = is_one_of_three
