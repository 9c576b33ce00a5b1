use Rattle.std.proofs.Common.{List, Some, subst}
use Rattle.dl_base.specs.declared.row.NamedChange.{NamedChange}
use Rattle.script_reader.specs.declared.command.Command.TheVariants as command
use Rattle.script_reader.specs.declared.request.Request.TheVariants as request
use Rattle.kept_base.specs.Doing.{PutsInBase}
use Rattle.kept_base.proofs.DecidedRefusals.{begin_steps, refusal_steps}
use Rattle.kept_base.proofs.base.Base.begin.Goals as goal

pub returns-in-Some-clause-step : goal.returns-in-Some-clause-step
returns-in-Some-clause-step c = refusal_steps c.args.self.now (request.Plain (command.Begin c.args.session)) c.in-Some.refusal c.in-Some.ensures.decides

pub returns-clause-step : goal.returns-clause-step
returns-clause-step c = begin_steps c.args.session c.args.self.now c.put.new.self c.in_default.ensures.decides
    (subst (λ (changes : List NamedChange). PutsInBase c.args.session (Some changes) c.args.self.now c.put.new.self) c.new.ensures c.put.ensures)
