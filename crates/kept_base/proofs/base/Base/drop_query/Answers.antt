use Rattle.std.proofs.Common.{sym, subst}
use Rattle.reply_text.specs.declared.reply.Refusal.{Refusal}
use Rattle.reply_text.specs.declared.reply.Refusal.TheVariants as refusal
use Rattle.reply_text.specs.declared.reply.Reply.TheVariants as reply
use Rattle.script_reader.specs.declared.command.Command.TheVariants as command
use Rattle.script_reader.specs.declared.request.Request.TheVariants as request
use Rattle.base_engine.specs.Refusals.{UsesHandle}
use Rattle.kept_base.specs.Base.{BaseState}
use Rattle.kept_base.specs.Doing.{BaseSteps, refusal_of_gone}
use Rattle.kept_base.proofs.DecidedRefusals.{refusal_steps, wants_ontology}
use Rattle.kept_base.proofs.PreparedQueries.{drop_steps, names_nothing}
use Rattle.kept_base.proofs.base.Base.drop_query.Goals as goal

pub returns-in_default-clause-step : goal.returns-in_default-clause-step
returns-in_default-clause-step c =
    let asked = command.Drop c.args.handle in
    refusal_steps c.args.self.now (request.Plain asked) refusal.NoOntology (wants_ontology c.args.self.now asked tt c.in_default.ensures)

pub returns-in-Ok-clause-step : goal.returns-in-Ok-clause-step
returns-in-Ok-clause-step c =
    drop_steps c.args.self.now c.forget.new.self c.in-Some.field-0.now c.in-Some.ensures c.tell.ensures.sound c.args.handle c.in-Ok.ensures.live c.in-Ok.ensures.ok

pub returns-in-Err-clause-step : goal.returns-in-Err-clause-step
returns-in-Err-clause-step c =
    let asked = command.Drop c.args.handle in
    let now = c.args.self.now in
    subst (λ (b : BaseState). BaseSteps now (request.Plain asked) (reply.Error c.refusal_of.result) b) (sym c.in-Err.ensures.err)
    (subst (λ (e : Refusal). BaseSteps now (request.Plain asked) (reply.Error e) now) (sym c.refusal_of.ensures)
    (refusal_steps now (request.Plain asked) (refusal_of_gone c.in-Err.gone)
    (names_nothing now c.in-Some.field-0.now c.in-Some.ensures asked c.args.handle c.in-Err.gone UsesHandle.drop c.in-Err.ensures.gone)))
