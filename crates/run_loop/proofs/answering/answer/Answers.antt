use Rattle.std.proofs.Common.{◌≡◌, ◌++◌, [], ◌∷◌, ◌∙◌, sym, ap, Some, None, refl, subst, ⊎_elim}
use Rattle.std.specs.Prelude.{Err}
use Rattle.run_loop.specs.Serving.{Ended}
use Rattle.run_loop.specs.declared.fault.Fault.{Fault}
use Rattle.run_loop.specs.declared.fault.Fault.TheVariants as fault
use Rattle.run_loop.proofs.RequestLemmas.{stepped, step_wanted, step_failed, printed_whole, print_failed, print_wanted, kept_told, left_as}
use Rattle.run_loop.proofs.answering.answer.Goals as goal

pub returns-in-Ok-print_reply-clause-serves : goal.returns-in-Ok-print_reply-clause-serves
returns-in-Ok-print_reply-clause-serves g c = λ start a requests s stands serves.
    let h = g.H.Host in
    let now = serves.replied in
    let keeps = kept_told (h.disk c.args.host.now) now.d s.history now.told now.kept in
    let run = c.step.ensures.moments s stands now.d now.told (kept_told (Some now.d) now.d s.history refl now.kept) in
    let done = c.in-Ok.ensures.steps s stands keeps (λ reopens none. (let t = now.told in let e : Some now.d ≡ None = sym t ∙ none in cc)) in
    let pending = stepped h.disk h.printed h.clock h.might start a requests s c.args.request c.args.host.now c.step.new.host serves c.step.ensures.printed c.step.ensures.told c.step.ensures.second run c.in-Ok.reply done.0 done.1 done.3 in
    (done.0, done.2, printed_whole h.disk h.printed h.clock h.might start a requests s c.args.request c.in-Ok.reply done.0 c.step.new.host c.print_reply.new.host pending c.in-Ok-print_reply.ensures.prints.whole)

pub returns-in-Err-print_reply-clause-serves : goal.returns-in-Err-print_reply-clause-serves
returns-in-Err-print_reply-clause-serves g c = λ start a requests s stands serves.
    let h = g.H.Host in
    let now = serves.replied in
    let keeps = kept_told (h.disk c.args.host.now) now.d s.history now.told now.kept in
    let run = c.step.ensures.moments s stands now.d now.told (kept_told (Some now.d) now.d s.history refl now.kept) in
    let done = c.in-Ok.ensures.steps s stands keeps (λ reopens none. (let t = now.told in let e : Some now.d ≡ None = sym t ∙ none in cc)) in
    let pending = stepped h.disk h.printed h.clock h.might start a requests s c.args.request c.args.host.now c.step.new.host serves c.step.ensures.printed c.step.ensures.told c.step.ensures.second run c.in-Ok.reply done.0 done.1 done.3 in
    let ended = λ (f : Fault). Ended h.disk h.printed h.clock h.might start a (requests ++ c.args.request ∷ []) f c.print_reply.new.host in
    ⊎_elim
    (λ print. subst ended (sym print)
    (print_failed h.disk h.printed h.clock h.might start a requests s c.args.request c.in-Ok.reply done.0 c.step.new.host c.print_reply.new.host pending
    (c.print_reply.ensures.prints.part (c.in-Err-print_reply.is ∙ ap Err print))))
    (λ memory.
    let no = c.print_reply.ensures.prints.wanted (c.in-Err-print_reply.is ∙ ap Err memory) in
    subst ended (sym memory)
    (subst (Ended h.disk h.printed h.clock h.might start a (requests ++ c.args.request ∷ []) fault.Memory) (sym no.0)
    (print_wanted h.disk h.printed h.clock h.might start a requests s c.args.request c.in-Ok.reply done.0 c.step.new.host pending no.1)))
    c.in-Err-print_reply.ensures.prints.only

pub returns-in-Err-clause-serves : goal.returns-in-Err-clause-serves
returns-in-Err-clause-serves g c = λ start a requests s stands serves.
    let h = g.H.Host in
    let now = serves.replied in
    let keeps = kept_told (h.disk c.args.host.now) now.d s.history now.told now.kept in
    let run = c.step.ensures.moments s stands now.d now.told (kept_told (Some now.d) now.d s.history refl now.kept) in
    let wanted = step_wanted h.disk h.printed h.clock h.might start a requests s c.args.request c.args.host.now c.step.new.host serves c.step.ensures.printed c.step.ensures.told c.step.ensures.second run in
    let failed = step_failed h.disk h.printed h.clock h.might start a requests s c.args.request c.args.host.now c.step.new.host serves c.step.ensures.printed c.step.ensures.told c.step.ensures.second run in
    left_as (λ (f : Fault). Ended h.disk h.printed h.clock h.might start a (requests ++ c.args.request ∷ []) f c.step.new.host) c.fault_of.result
    (λ is. failed (c.in-Err.ensures.disk_fault (ap Err (c.fault_of.ensures.disk is))).0)
    (λ is. wanted (c.in-Err.ensures.no_memory (ap Err (c.fault_of.ensures.memory is)) s stands keeps))
    (λ area at is. let none = c.step.ensures.damaged area at (c.in-Err.is ∙ ap Err (c.fault_of.ensures.damaged area at is)) in absurd (let t = now.told in let n = none.0 in cc))
    c.fault_of.ensures.not_print
