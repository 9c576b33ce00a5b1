use Rattle.gated_log.proofs.LawLemmas.{fresh_has_no_header}
use Rattle.gated_log.proofs.laws.fresh_has_no_header.Goals as goal

pub returns : goal.returns
returns c = fresh_has_no_header
