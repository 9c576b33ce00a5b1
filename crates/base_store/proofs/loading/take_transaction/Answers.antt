use Rattle.base_store.proofs.Taking.{no_changes, taken_payload}
use Rattle.base_store.proofs.loading.take_transaction.Goals as goal

pub returns-in-Ok : goal.returns-in-Ok
returns-in-Ok c = λ before has.
    taken_payload c.args.payload.now c.args.ontology.now before c.in-Ok.changes c.args.individuals.now _ _ c.take_changes.result
    c.in-Ok.ensures.found c.in-Ok.ensures.only c.take_changes.ensures.names (c.take_changes.ensures.taken before has)

pub returns-in-Err : goal.returns-in-Err
returns-in-Err c = λ before has changes is next. no_changes c.args.payload.now c.in-Err.field-0 c.in-Err.ensures.fault changes is
