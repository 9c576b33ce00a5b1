use Rattle.script_reader.specs.declared.command.Command.TheVariants as command
use Rattle.kept_base.proofs.QuestionReplies.{kept_within, query_steps, unasked_steps}
use Rattle.kept_base.proofs.base.Base.ask.Goals as goal
use Rattle.kept_base.proofs.base.Base.ask.Goals.{in-Some, in-None}

pub ask-requires : goal.ask-requires
ask-requires c = kept_within c.self.inside.contents.individuals c.self.inside.contents.rows c.in-Some.reasoner (c.self.invariant.completed c.in-Some.reasoner c.in-Some.is)

pub returns-clause-step : goal.returns-clause-step
returns-clause-step c = elim c.match-self.branch [
  | in-Some w ↦ rw w.result-is (query_steps _ c.args.self.now c.self.view_is w.ask.result w.in-Some.reasoner w.in-Some.is c.self.invariant c.args.q.now w.ask.ensures)
  | in-None w ↦ rw w.result-is (unasked_steps _ c.args.self.now c.self.view_is (command.Ask c.args.q.now) tt w.in-None.is)
]
