use Rattle.std.proofs.Common.{sym, subst}
use Rattle.clash_report.specs.Report.{IsReported}
use Rattle.dl_base.specs.Completion.{AreCompleted}
use Rattle.dl_base.specs.Ontology.{IsTerminology}
use Rattle.witness_book.specs.Witnesses.{generation_of}
use Rattle.base_reasoner.specs.Reasoned.{Reasoned}
use Rattle.base_reasoner.proofs.FoundReplies.{bound_known, query_answers, query_clash}
use Rattle.base_reasoner.proofs.reasoner.Reasoner.reply.Goals as goal

pub returns-in-Some : goal.returns-in-Some
returns-in-Some c = λ rows named.
    let o = c.args.self.now.ontology in
    query_clash o rows c.args.q.now c.in-Some.clash (bound_known o c.args.q.now c.args.bound.now c.requires.bound) (subst (IsReported o rows) c.in-Some.is (c.in_ok-clash.ensures rows named))

pub returns-in_ok-answers-in-None : goal.returns-in_ok-answers-in-None
returns-in_ok-answers-in-None c = λ rows named.
    let o = c.args.self.now.ontology in
    query_answers o rows c.args.q.now c.in_ok-answers-in-None.field-0 (bound_known o c.args.q.now c.args.bound.now c.requires.bound) (subst (IsReported o rows) c.in-None.is (c.in_ok-clash.ensures rows named))
    (c.in_ok-answers-in-None.ensures o rows (generation_of c.args.self.now.tables.book) c.args.q.now
    (subst (λ (r : Reasoned). IsTerminology r.ontology) c.self.view_is c.self.invariant.graph_is.within) c.atoms.ensures.query c.requires.bound
    (subst (λ (r : Reasoned). AreCompleted o rows c.args.individuals.now (generation_of c.args.self.now.tables.book) r.tables.rows) (sym c.self.view_is) named.tables))
