use Rattle.txn_codec.proofs.MeanOnce.{ontology_once}
use Rattle.txn_codec.proofs.laws.ontology_means_once.Goals as goal

pub returns : goal.returns
returns c = ontology_once
