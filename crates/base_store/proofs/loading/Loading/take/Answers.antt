use Rattle.std.proofs.Common.{arith, subst}
use Rattle.txn_codec.specs.Fault.{IsOntologyFault}
use Rattle.base_store.proofs.Taking.{count_within, no_ontology, taken_ontology, taken_transaction}
use Rattle.base_store.proofs.loading.Loading.take.Goals as goal

pub overflow_add-self : goal.overflow_add-self
overflow_add-self c = let r = c.requires in omega (arith, r.1.transactions, r.2, count_within r.0)

pub returns-in-Ok : goal.returns-in-Ok
returns-in-Ok c = λ h keeps. taken_ontology c.args.self.now h c.args.kind c.args.payload.now c.in-Ok.ontology keeps c.in-None.is c.if-kind-eq1.true c.in-Ok.ensures.found

pub returns-in-Err-Bad : goal.returns-in-Err-Bad
returns-in-Err-Bad c = λ h keeps.
    let fault = subst (IsOntologyFault c.args.payload.now) c.in-Err-Bad.field-0-is c.in-Err-Bad.ensures.fault in
    no_ontology c.args.self.now h c.args.kind c.args.payload.now keeps c.in-None.is fault.1

pub returns-in_ok-legal-in-Some : goal.returns-in_ok-legal-in-Some
returns-in_ok-legal-in-Some c = λ h keeps.
    taken_transaction c.args.self.now h c.args.kind c.args.payload.now c.in-Some.ontology _ _ c.in_ok-legal-in-Some.legal keeps c.in-Some.is c.if-kind-eq2.true c.in_ok-legal-in-Some.ensures
