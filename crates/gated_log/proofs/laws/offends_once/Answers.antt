use Rattle.gated_log.proofs.LawLemmas.{offends_once}
use Rattle.gated_log.proofs.laws.offends_once.Goals as goal

pub returns : goal.returns
returns c = offends_once
