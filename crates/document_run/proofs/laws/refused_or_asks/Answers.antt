use Rattle.document_run.proofs.DocumentLemmas.{not_both_meanings}
use Rattle.document_run.proofs.laws.refused_or_asks.Goals as goal

pub returns : goal.returns
returns c = not_both_meanings
