use Rattle.std.proofs.Common.{inr}
use Rattle.run_loop.proofs.ScriptLemmas.{wanted, takes_nothing, takes_opens, whole_single, takes_answered, ended_answered}
use Rattle.run_loop.proofs.taking.take_outside.Goals as goal

pub returns-in-Ok-Nothing-clause-takes : goal.returns-in-Ok-Nothing-clause-takes
returns-in-Ok-Nothing-clause-takes g c = λ start a tokens t. takes_nothing g.H.Host.disk g.H.Host.printed g.H.Host.clock g.H.Host.might start (g.E.Engine.stands c.args.engine) a tokens _ c.args.host.now t
    (rw c.in-Ok-Nothing.field-0-is at c.in-Ok-Nothing.ensures)

pub returns-in-Ok-clause-takes : goal.returns-in-Ok-clause-takes
returns-in-Ok-clause-takes g c = λ start a tokens t. takes_opens g.H.Host.disk g.H.Host.printed g.H.Host.clock g.H.Host.might start (g.E.Engine.stands c.args.engine) a tokens _ c.in-Ok.block c.args.host.now t
    (rw c.in-Ok-Opens.field-0-is at c.in-Ok-Opens.ensures) c.in-Ok.ensures

pub returns-in-Err-new-clause-takes : goal.returns-in-Err-new-clause-takes
returns-in-Err-new-clause-takes g c = λ start a tokens t. wanted g.H.Host.disk g.H.Host.printed g.H.Host.clock g.H.Host.might start (g.E.Engine.stands c.args.engine) a tokens _ _ c.args.host.now t

pub returns-in-Ok-answer-clause-takes : goal.returns-in-Ok-answer-clause-takes
returns-in-Ok-answer-clause-takes g c = λ start a tokens t.
    let h = g.H.Host in
    let whole = whole_single h.disk h.printed h.clock h.might start (g.E.Engine.stands c.args.engine) a tokens _ c.in-Ok-Asks.request c.args.host.now t (rw c.in-Ok-Asks.field-0-is at c.in-Ok-Asks.ensures).0 in
    let done = c.in-Ok-answer.ensures.serves start a t.requests t.state t.stands_for t.serves in
    takes_answered h.disk h.printed h.clock h.might start (g.E.Engine.stands c.in-Ok-answer.next) a _ _ done.0 c.answer.new.host whole done.1 done.2

pub returns-in-Err-answer-clause-takes : goal.returns-in-Err-answer-clause-takes
returns-in-Err-answer-clause-takes g c = λ start a tokens t.
    let h = g.H.Host in
    let whole = whole_single h.disk h.printed h.clock h.might start (g.E.Engine.stands c.args.engine) a tokens _ c.in-Ok-Asks.request c.args.host.now t (rw c.in-Ok-Asks.field-0-is at c.in-Ok-Asks.ensures).0 in
    inr (ended_answered h.disk h.printed h.clock h.might start a _ _ c.in-Err-answer.fault c.answer.new.host whole (c.in-Err-answer.ensures.serves start a t.requests t.state t.stands_for t.serves))

pub returns-in-Err-clause-takes : goal.returns-in-Err-clause-takes
returns-in-Err-clause-takes g c = λ start a tokens t. wanted g.H.Host.disk g.H.Host.printed g.H.Host.clock g.H.Host.might start (g.E.Engine.stands c.args.engine) a tokens _ _ c.args.host.now t
