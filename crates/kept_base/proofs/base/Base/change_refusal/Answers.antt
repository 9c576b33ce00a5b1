use Rattle.dl_base.specs.Numbers.{IsNamedBy}
use Rattle.base_engine.specs.Refusals.{LacksNameOf}
use Rattle.kept_base.proofs.DecidedRefusals.{appends_needs, at_none, at_some, changes_accepted, changes_closed, changes_pending, changes_unknown, wants_ontology}
use Rattle.kept_base.proofs.base.Base.change_refusal.Goals as goal

pub returns-in_default-clause-decides : goal.returns-in_default-clause-decides
returns-in_default-clause-decides c = λ d appends. wants_ontology c.args.self.now d (appends_needs d c.args.session c.args.row.now appends) c.in_default.ensures

pub returns-in_default-changes-clause-decides : goal.returns-in_default-changes-clause-decides
returns-in_default-changes-clause-decides c = λ d appends.
    changes_closed c.args.self.now c.in-Some.ontology.now c.in-Some.ensures c.args.session d c.args.row.now appends c.in_default-changes.ensures

pub returns-in-Some-2-clause-decides : goal.returns-in-Some-2-clause-decides
returns-in-Some-2-clause-decides c = λ d appends.
    changes_unknown c.args.self.now c.in-Some.ontology.now c.in-Some.ensures c.args.session d c.args.row.now appends c.in-Some-changes.changes.now c.in-Some-changes.ensures c.in-Some-2.refusal
    (at_some (IsNamedBy c.in-Some.ontology.now c.args.row.now) (LacksNameOf c.in-Some.ontology.now c.args.row.now) c.in_ok-refusal.field-0 c.in-Some-2.refusal c.in-Some-2.is c.in_ok-refusal.ensures)

pub returns-in-None-clause-decides : goal.returns-in-None-clause-decides
returns-in-None-clause-decides c = λ d appends.
    changes_accepted c.args.self.now c.in-Some.ontology.now c.in-Some.ensures c.args.session d c.args.row.now appends c.in-Some-changes.changes.now c.in-Some-changes.ensures
    (at_none (IsNamedBy c.in-Some.ontology.now c.args.row.now) (LacksNameOf c.in-Some.ontology.now c.args.row.now) c.in_ok-refusal.field-0 c.in-None.is c.in_ok-refusal.ensures) c.if-changes-lt-PENDING.true

pub returns-in-None-2-clause-decides : goal.returns-in-None-2-clause-decides
returns-in-None-2-clause-decides c = λ d appends.
    changes_pending c.args.self.now c.in-Some.ontology.now c.in-Some.ensures c.args.session d c.args.row.now appends c.in-Some-changes.changes.now c.in-Some-changes.ensures
    (at_none (IsNamedBy c.in-Some.ontology.now c.args.row.now) (LacksNameOf c.in-Some.ontology.now c.args.row.now) c.in_ok-refusal.field-0 c.in-None-2.is c.in_ok-refusal.ensures) c.if-changes-lt-PENDING.false
