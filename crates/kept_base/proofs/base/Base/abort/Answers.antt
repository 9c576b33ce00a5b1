use Rattle.script_reader.specs.declared.command.Command.TheVariants as command
use Rattle.script_reader.specs.declared.request.Request.TheVariants as request
use Rattle.kept_base.proofs.DecidedRefusals.{abort_steps, refusal_steps}
use Rattle.kept_base.proofs.base.Base.abort.Goals as goal

pub returns-in-Some-clause-step : goal.returns-in-Some-clause-step
returns-in-Some-clause-step c = refusal_steps c.args.self.now (request.Plain (command.Abort c.args.session)) c.in-Some.refusal c.in-Some.ensures

pub returns-clause-step : goal.returns-clause-step
returns-clause-step c = abort_steps c.args.session c.args.self.now c.put.new.self c.in_default.ensures c.put.ensures
