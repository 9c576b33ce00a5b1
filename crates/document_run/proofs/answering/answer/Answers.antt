use Rattle.std.proofs.Common.{map, refl, subst}
use Rattle.document_run.proofs.InputLemmas.{ends_replied, ends_early}
use Rattle.document_run.proofs.EndingLemmas.{answered_only, else_no_memory, never_read_fault, refused_only}
use Rattle.document_run.proofs.answering.answer.Goals as goal

pub returns-in-Ok-clause-run : goal.returns-in-Ok-clause-run
returns-in-Ok-clause-run g c = λ input told.
    let s = c.in-Ok.ensures.read input told in
    record { read = s.read; rest = s.rest; reads = s.reads; ends = ends_replied c.reply.result s.read s.rest _ _ s.stops.0 (c.reply.ensures.replies s.read s.stops.1) }

pub returns-in-Err-clause-run : goal.returns-in-Err-clause-run
returns-in-Err-clause-run g c = λ input told.
    let s = c.in-Err.ensures.read input told in
    record { read = s.read; rest = s.rest; reads = s.reads; ends = ends_early c.in-Err.ending s.read s.rest _ _ s.stops refl }

pub returns-in-Ok-clause-refuses : goal.returns-in-Ok-clause-refuses
returns-in-Ok-clause-refuses g c = λ code line input told few document.
    refused_only input _ _ _ few code line document c.reply.result (returns-in-Ok-clause-run g c input told)

pub returns-in-Err-clause-refuses : goal.returns-in-Err-clause-refuses
returns-in-Err-clause-refuses g c = λ code line input told few document.
    refused_only input _ _ _ few code line document c.in-Err.ending (returns-in-Err-clause-run g c input told)

pub returns-in-Ok-clause-answers : goal.returns-in-Ok-clause-answers
returns-in-Ok-clause-answers g c = λ o rows q input told few document.
    answered_only input _ _ _ few o rows q document c.reply.result (returns-in-Ok-clause-run g c input told)

pub returns-in-Err-clause-answers : goal.returns-in-Err-clause-answers
returns-in-Err-clause-answers g c = λ o rows q input told few document.
    answered_only input _ _ _ few o rows q document c.in-Err.ending (returns-in-Err-clause-run g c input told)

pub returns-in-Ok-clause-silent : goal.returns-in-Ok-clause-silent
returns-in-Ok-clause-silent g c = λ done fault. c.reply.ensures.silent (else_no_memory c.reply.result c.reply.ensures.only done fault)

pub returns-in-Ok-clause-read_fault : goal.returns-in-Ok-clause-read_fault
returns-in-Ok-clause-read_fault g c = λ fault. absurd (never_read_fault c.reply.result c.reply.ensures.only fault)
