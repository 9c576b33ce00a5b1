use Rattle.std.proofs.Common.{true, inr}
use Rattle.script_reader.specs.Requests.{Is}
use Rattle.run_loop.proofs.ScriptLemmas.{wanted, takes_inside, whole_block, takes_answered, ended_answered, is_true, is_false}
use Rattle.run_loop.proofs.taking.take_inside.Goals as goal

pub returns-in-Ok-clause-takes : goal.returns-in-Ok-clause-takes
returns-in-Ok-clause-takes g c = λ start a tokens few t.
    let h = g.H.Host in
    let ends = c.is_end.ensures.0 (is_true c.is_end.result c.if-is_end.true) in
    let whole = whole_block h.disk h.printed h.clock h.might start (g.E.Engine.stands c.args.engine) a tokens (Is _) true c.args.block c.finish.result c.block_request-request.result c.args.host.now few t c.block_request-request.ensures.is ends c.finish.ensures in
    let done = c.in-Ok.ensures.serves start a t.requests t.state t.stands_for t.serves in
    takes_answered h.disk h.printed h.clock h.might start (g.E.Engine.stands c.in-Ok.next) a _ _ done.0 c.answer.new.host whole done.1 done.2

pub returns-in-Err-clause-takes : goal.returns-in-Err-clause-takes
returns-in-Err-clause-takes g c = λ start a tokens few t.
    let h = g.H.Host in
    let ends = c.is_end.ensures.0 (is_true c.is_end.result c.if-is_end.true) in
    let whole = whole_block h.disk h.printed h.clock h.might start (g.E.Engine.stands c.args.engine) a tokens (Is _) true c.args.block c.finish.result c.block_request-request.result c.args.host.now few t c.block_request-request.ensures.is ends c.finish.ensures in
    inr (ended_answered h.disk h.printed h.clock h.might start a _ _ c.in-Err.fault c.answer.new.host whole (c.in-Err.ensures.serves start a t.requests t.state t.stands_for t.serves))

pub returns-in-Ok-line-clause-takes : goal.returns-in-Ok-line-clause-takes
returns-in-Ok-line-clause-takes g c = λ start a tokens few t.
    let h = g.H.Host in
    takes_inside h.disk h.printed h.clock h.might start (g.E.Engine.stands c.args.engine) a tokens _ c.args.block c.line.new.self c.args.host.now few t
    (λ ends. is_false c.is_end.result c.if-is_end.false (c.is_end.ensures.1 ends)) c.in-Ok-line.ensures

pub returns-in-Err-line-clause-takes : goal.returns-in-Err-line-clause-takes
returns-in-Err-line-clause-takes g c = λ start a tokens few t. wanted g.H.Host.disk g.H.Host.printed g.H.Host.clock g.H.Host.might start (g.E.Engine.stands c.args.engine) a tokens _ _ c.args.host.now t
