use Rattle.gated_log.proofs.LawLemmas.{stands_or_offends}
use Rattle.gated_log.proofs.laws.stands_or_offends.Goals as goal

pub returns : goal.returns
returns c = stands_or_offends
