use Rattle.kept_base.proofs.QuestionReplies.{tables_steps, unasked_steps}
use Rattle.script_reader.specs.declared.command.Command.TheVariants as command
use Rattle.kept_base.proofs.base.Base.tables.Goals as goal

pub returns-in_ok-lines-in-Some-clause-step : goal.returns-in_ok-lines-in-Some-clause-step
returns-in_ok-lines-in-Some-clause-step c = tables_steps _ c.args.self.now c.self.view_is c.in-Some.reasoner c.in-Some.is c.self.invariant c.in_ok-lines-in-Some.lines c.in_ok-lines-in-Some.ensures

pub returns-in-None-clause-step : goal.returns-in-None-clause-step
returns-in-None-clause-step c = unasked_steps _ c.args.self.now c.self.view_is command.Tables tt c.in-None.is
