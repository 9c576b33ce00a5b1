use Rattle.std.proofs.Common.{◌≡◌, ◌∙◌}
use Rattle.reply_text.specs.ReplyText.{text_of_reply}
use Rattle.document_run.proofs.EndingLemmas.{replies_to}
use Rattle.document_run.proofs.answering.reply.Goals as goal

pub returns-in-Ok-print-clause-replies : goal.returns-in-Ok-print-clause-replies
returns-in-Ok-print-clause-replies g c = λ read document.
    let text : c.as_slice.result.now ≡ text_of_reply c.in-Ok.shown = c.as_slice.ensures.value ∙ c.in-Ok-text_of.ensures in
    (c.as_slice.result.now, replies_to read c.as_slice.result.now c.in-Ok.shown c.args.document document c.in-Ok.ensures text, c.in-Ok-print.ensures.printed.ok)

pub returns-clause-replies : goal.returns-clause-replies
returns-clause-replies g c = λ read document.
    let text : c.as_slice.result.now ≡ text_of_reply c.in-Ok.shown = c.as_slice.ensures.value ∙ c.in-Ok-text_of.ensures in
    (c.as_slice.result.now, replies_to read c.as_slice.result.now c.in-Ok.shown c.args.document document c.in-Ok.ensures text, c.in-Err.ensures.printed.told)
