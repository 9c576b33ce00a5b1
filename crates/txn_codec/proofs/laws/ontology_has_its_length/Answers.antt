use Rattle.txn_codec.proofs.Lengths.{ontology_has_its_length}
use Rattle.txn_codec.proofs.laws.ontology_has_its_length.Goals as goal

pub returns : goal.returns
returns c = ontology_has_its_length
