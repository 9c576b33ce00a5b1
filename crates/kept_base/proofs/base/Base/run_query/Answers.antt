use Rattle.std.proofs.Common.{ap, subst}
use Rattle.script_reader.specs.declared.command.Command.TheVariants as command
use Rattle.script_reader.specs.declared.request.Request.TheVariants as request
use Rattle.reply_text.specs.declared.reply.Reply.TheVariants as reply
use Rattle.base_engine.specs.Refusals.{UsesHandle}
use Rattle.kept_base.specs.Base.{BaseState, ontology_in}
use Rattle.kept_base.specs.Doing.{BaseSteps, refusal_of_gone}
use Rattle.kept_base.proofs.DecidedRefusals.{refusal_steps}
use Rattle.kept_base.proofs.PreparedQueries.{names_nothing}
use Rattle.kept_base.proofs.QuestionReplies.{kept_within, run_steps, unasked_steps}
use Rattle.kept_base.proofs.base.Base.run_query.Goals as goal
use Rattle.kept_base.proofs.base.Base.run_query.Goals.{in-Ok, in-Err}

pub returns-in_default-clause-step : goal.returns-in_default-clause-step
returns-in_default-clause-step c = unasked_steps _ c.args.self.now c.self.view_is (command.Run c.args.handle) tt c.in_default.is

pub ask-requires : goal.ask-requires
ask-requires c = kept_within c.self.inside.contents.individuals c.self.inside.contents.rows c.in-Some.reasoner (c.self.invariant.completed c.in-Some.reasoner c.in-Some.is)

pub returns-clause-step : goal.returns-clause-step
returns-clause-step c = elim c.match-get.branch [
  | in-Ok w ↦ rw w.result-is (run_steps _ c.args.self.now c.self.view_is w.ask.result c.in-Some.reasoner c.in-Some.is c.self.invariant c.args.handle w.in-Ok.query.now w.in-Ok.ensures.found w.ask.ensures)
  | in-Err w ↦ rw w.result-is (rw w.refusal_of.ensures (subst (λ (b : BaseState). BaseSteps b (request.Plain (command.Run c.args.handle)) (reply.Error (refusal_of_gone w.in-Err.gone)) b) c.self.view_is
      (refusal_steps _ (request.Plain (command.Run c.args.handle)) (refusal_of_gone w.in-Err.gone)
      (names_nothing _ c.in-Some.reasoner.ontology (ap ontology_in c.in-Some.is) (command.Run c.args.handle) c.args.handle w.in-Err.gone UsesHandle.run w.in-Err.ensures.gone))))
]
