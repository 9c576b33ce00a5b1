use Rattle.script_reader.specs.declared.command.Command.TheVariants as command
use Rattle.kept_base.proofs.DecidedRefusals.{aborts_closed, wants_ontology}
use Rattle.kept_base.proofs.base.Base.abort_refusal.Goals as goal

pub returns-in_default : goal.returns-in_default
returns-in_default c = wants_ontology c.args.self.now (command.Abort c.args.session) tt c.in_default.ensures

pub returns-in-None : goal.returns-in-None
returns-in-None c = aborts_closed c.args.self.now c.in-Some.field-0.now c.in-Some.ensures c.args.session c.in-None.ensures
