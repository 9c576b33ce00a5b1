use Rattle.document_run.proofs.DocumentLemmas as documents
use Rattle.document_run.proofs.laws.refused_once.Goals as goal

pub returns : goal.returns
returns c = documents.refused_once
