use Rattle.document_run.proofs.OntologyLemmas.{ontology_none}
use Rattle.document_run.proofs.FactLemmas.{facts_none}
use Rattle.document_run.proofs.LineTaking.{kept_none}
use Rattle.document_run.proofs.document.Draft.new.Goals as goal

pub returns : goal.returns
returns c =
    let o = c.in_ok-ontology.ontology in
    let facts = c.new-2.result in
    kept_none o facts (ontology_none o c.in_ok-ontology.ensures) (facts_none o facts c.new-2.ensures.individuals c.new-2.ensures.rows)
