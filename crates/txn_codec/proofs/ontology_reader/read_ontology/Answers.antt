use Rattle.txn_codec.proofs.WholeOntology.{whole_ontology, no_payload}
use Rattle.txn_codec.proofs.ontology_reader.read_ontology.Goals as goal

pub overflow_sub-result : goal.overflow_sub-result
overflow_sub-result c = (whole_ontology c.args.bytes.now _ (rw c.in-Err-Fault.field-0-is at c.in-Err-Fault.ensures)).within

pub returns-in-Ok-clause-found : goal.returns-in-Ok-clause-found
returns-in-Ok-clause-found c = ((whole_ontology c.args.bytes.now _ c.in-Ok.ensures).is, c.concepts.ensures.within)

pub returns-in-Ok-clause-only : goal.returns-in-Ok-clause-only
returns-in-Ok-clause-only c = λ other p. (whole_ontology c.args.bytes.now _ c.in-Ok.ensures).only other p.0

pub returns-in-Err-Fault-clause-fault : goal.returns-in-Err-Fault-clause-fault
returns-in-Err-Fault-clause-fault c =
    let l = (whole_ontology c.args.bytes.now _ (rw c.in-Err-Fault.field-0-is at c.in-Err-Fault.ensures)).least in
    (l, no_payload c.args.bytes.now _ l)
