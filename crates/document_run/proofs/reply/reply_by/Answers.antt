use Rattle.std.proofs.Common.{subst}
use Rattle.clash_report.specs.Report.{IsReported}
use Rattle.document_run.specs.Sound.{document_of}
use Rattle.document_run.specs.declared.document.Document.{Document}
use Rattle.document_run.proofs.AnswerLemmas.{rows_in, answers_shown, clash_replied, stand_of}
use Rattle.document_run.proofs.reply.reply_by.Goals as goal

pub first_clash-requires-clause-numbered : goal.first_clash-requires-clause-numbered
first_clash-requires-clause-numbered g c = λ n kept. c.requires.sound.numbered n (c.in_ok-graph.ensures.kept n kept)

pub returns-in-Some : goal.returns-in-Some
returns-in-Some g c = λ lines whole.
    let document : Document = document_of c.args.ontology.now c.args.individuals.now c.args.rows.now c.args.asked.now in
    let named = c.in_ok-graph.ensures.named c.args.individuals.now (rows_in whole) (stand_of whole) in
    clash_replied lines document c.in-Some.clash whole
    (subst (IsReported c.args.ontology.now (rows_in whole)) c.in-Some.is (c.in_ok-first.ensures (rows_in whole) named))

pub returns : goal.returns
returns g c = λ lines whole.
    let document : Document = document_of c.args.ontology.now c.args.individuals.now c.args.rows.now c.args.asked.now in
    let named = c.in_ok-graph.ensures.named c.args.individuals.now (rows_in whole) (stand_of whole) in
    answers_shown lines document c.certain_answers.result whole
    (subst (IsReported c.args.ontology.now (rows_in whole)) c.in-None.is (c.in_ok-first.ensures (rows_in whole) named))
    (c.certain_answers.ensures (rows_in whole) c.in_ok-graph.ensures.graph.within whole.askable.within named)
