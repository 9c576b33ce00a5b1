use Rattle.gated_log.proofs.LawLemmas.{fresh_never_offends}
use Rattle.gated_log.proofs.laws.fresh_never_offends.Goals as goal

pub returns : goal.returns
returns c = fresh_never_offends
