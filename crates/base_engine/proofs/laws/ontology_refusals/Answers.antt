use Rattle.base_engine.proofs.RefusalTable.{ontology_refusals}
use Rattle.base_engine.proofs.laws.ontology_refusals.Goals as goal

pub returns : goal.returns
returns c = ontology_refusals
