use Rattle.gated_log.proofs.LawLemmas.{stands_once}
use Rattle.gated_log.proofs.laws.stands_once.Goals as goal

pub returns : goal.returns
returns c = stands_once
