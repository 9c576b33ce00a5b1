use Rattle.script_reader.specs.declared.command.Command.TheVariants as command
use Rattle.kept_base.proofs.DecidedRefusals.{begins, begins_twice, wants_ontology}
use Rattle.kept_base.proofs.base.Base.begin_refusal.Goals as goal

pub returns-in_default-clause-decides : goal.returns-in_default-clause-decides
returns-in_default-clause-decides c = wants_ontology c.args.self.now (command.Begin c.args.session) tt c.in_default.ensures

pub returns-in-None-clause-decides : goal.returns-in-None-clause-decides
returns-in-None-clause-decides c = begins c.args.self.now c.in-Some.field-0.now c.in-Some.ensures c.args.session c.in-None.ensures

pub returns-in-Some-changes-clause-decides : goal.returns-in-Some-changes-clause-decides
returns-in-Some-changes-clause-decides c = begins_twice c.args.self.now c.in-Some.field-0.now c.in-Some.ensures c.args.session c.in-Some-changes.field-0.now c.in-Some-changes.ensures
