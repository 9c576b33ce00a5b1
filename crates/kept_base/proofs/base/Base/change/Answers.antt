use Rattle.std.proofs.Common.{subst}
use Rattle.script_reader.specs.declared.request.Request.TheVariants as request
use Rattle.kept_base.specs.Doing.{DecidesRefusal, command_of_change}
use Rattle.kept_base.proofs.DecidedRefusals.{appends_change, change_steps, refusal_steps}
use Rattle.kept_base.proofs.base.Base.change.Goals as goal

pub returns-in-Some-clause-step : goal.returns-in-Some-clause-step
returns-in-Some-clause-step c =
    let asked = command_of_change c.args.session c.args.change in
    refusal_steps c.args.self.now (request.Plain asked) c.in-Some.refusal
    (subst (DecidesRefusal c.args.self.now (request.Plain asked)) c.in-Some.is (c.in_ok-refusal.ensures.decides asked (appends_change c.args.session c.args.change)))

pub returns-clause-step : goal.returns-clause-step
returns-clause-step c =
    let asked = command_of_change c.args.session c.args.change in
    let room = c.in_ok-refusal.ensures.room c.in_default.is in
    change_steps c.args.session c.args.change room.0 c.args.self.now c.append.new.self room.1.were
    (subst (DecidesRefusal c.args.self.now (request.Plain asked)) c.in_default.is (c.in_ok-refusal.ensures.decides asked (appends_change c.args.session c.args.change)))
    (c.in_ok-append.ensures.ok room.0 room.1.were)
