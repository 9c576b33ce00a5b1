use Rattle.script_reader.specs.declared.command.Command.TheVariants as command
use Rattle.kept_base.proofs.CommittedBases.{no_session}
use Rattle.kept_base.proofs.DecidedRefusals.{wants_ontology}
use Rattle.kept_base.proofs.base.Base.commit_refusal.Goals as goal

pub returns-in_default : goal.returns-in_default
returns-in_default c = wants_ontology c.args.self.now (command.Commit c.args.session) tt c.in_default.ensures

pub returns-in-None : goal.returns-in-None
returns-in-None c = no_session c.args.self.now c.args.session c.in-Some.field-0.now c.in-Some.ensures c.in-None.ensures
