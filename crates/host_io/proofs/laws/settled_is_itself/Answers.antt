use Rattle.host_io.proofs.LawLemmas.{settled_is_itself}
use Rattle.host_io.proofs.laws.settled_is_itself.Goals as goal

pub returns : goal.returns
returns c = settled_is_itself
