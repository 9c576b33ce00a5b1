use Rattle.std.proofs.Common.{subst}
use Rattle.script_reader.specs.declared.command.Command.TheVariants as command
use Rattle.script_reader.specs.declared.request.Request.TheVariants as request
use Rattle.kept_base.specs.Doing.{DecidesRefusal}
use Rattle.kept_base.proofs.DecidedRefusals.{refusal_steps}
use Rattle.kept_base.proofs.PreparedQueries.{prepare_steps}
use Rattle.kept_base.proofs.base.Base.prepare.Goals as goal

pub returns-in-Some-clause-step : goal.returns-in-Some-clause-step
returns-in-Some-clause-step c =
    let asked = request.Plain (command.Prepare c.args.query) in
    refusal_steps c.args.self.now asked c.in-Some.refusal (subst (DecidesRefusal c.args.self.now asked) c.in-Some.is c.in_ok-refusal.ensures.decides)

pub returns-clause-step : goal.returns-clause-step
returns-clause-step c =
    let asked = request.Plain (command.Prepare c.args.query) in
    prepare_steps c.args.self.now c.keep.new.self c.args.query c.in_ok-handle.handle (subst (DecidesRefusal c.args.self.now asked) c.in_default.is c.in_ok-refusal.ensures.decides)
    c.in_ok-handle.ensures.handle c.in_ok-handle.ensures.ok
