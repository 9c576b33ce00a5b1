use Rattle.document_run.proofs.MeaningLemmas as meanings
use Rattle.document_run.proofs.laws.has_a_meaning.Goals as goal

pub returns : goal.returns
returns c = meanings.has_a_meaning
