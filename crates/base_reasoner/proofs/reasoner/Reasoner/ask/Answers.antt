use Rattle.std.proofs.Common.{subst}
use Rattle.answer_core.specs.Binding.{IsBoundTo}
use Rattle.query_shape.specs.ShapeFault.{IsShapeFault}
use Rattle.base_reasoner.specs.Questions.{IsReplyToQuery}
use Rattle.base_reasoner.specs.Reasoned.{Reasoned}
use Rattle.base_reasoner.proofs.reasoner.Reasoner.ask.Goals as goal

pub reply-requires-clause-bound : goal.reply-requires-clause-bound
reply-requires-clause-bound c = subst (λ (r : Reasoned). IsBoundTo r.ontology c.args.q.now c.in-Ok.bound) c.self.view_is c.in-Ok.ensures.ok

pub returns-in_ok-unknown-in-Err : goal.returns-in_ok-unknown-in-Err
returns-in_ok-unknown-in-Err c = λ rows named. IsReplyToQuery.lacks (c.in_ok-unknown-in-Err.ensures c.args.self.now.ontology c.args.q.now
    (subst (λ (r : Reasoned). IsShapeFault r.ontology c.args.q.now c.in-Err.error) c.self.view_is c.in-Err.ensures.err))
