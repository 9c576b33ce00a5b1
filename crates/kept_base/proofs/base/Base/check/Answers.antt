use Rattle.kept_base.proofs.QuestionReplies.{check_steps, kept_within, unasked_steps}
use Rattle.script_reader.specs.declared.command.Command.TheVariants as command
use Rattle.kept_base.proofs.base.Base.check.Goals as goal

pub check-requires : goal.check-requires
check-requires c = kept_within c.self.inside.contents.individuals c.self.inside.contents.rows c.in-Some.reasoner (c.self.invariant.completed c.in-Some.reasoner c.in-Some.is)

pub returns-in-Some-clause-step : goal.returns-in-Some-clause-step
returns-in-Some-clause-step c = check_steps _ c.args.self.now c.self.view_is c.check.result c.in-Some.reasoner c.in-Some.is c.self.invariant c.check.ensures

pub returns-in-None-clause-step : goal.returns-in-None-clause-step
returns-in-None-clause-step c = unasked_steps _ c.args.self.now c.self.view_is command.Check tt c.in-None.is
