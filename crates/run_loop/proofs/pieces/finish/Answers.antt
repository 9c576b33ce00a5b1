use Rattle.std.proofs.Common.{arith}
use Rattle.run_loop.proofs.RequestLemmas.{match_weaker}
use Rattle.run_loop.proofs.ByteLemmas.{all_taken, end_ended, last_ended, last_told, lines_few, tokens_few}
use Rattle.run_loop.proofs.pieces.finish.Goals as goal

pub take_fed-requires-clause-fed : goal.take_fed-requires-clause-fed
take_fed-requires-clause-fed g c = last_told c.finish-fed.result c.args.lines.now c.finish-fed.new.self c.finish-fed.ensures

pub returns-in-Ok-clause-takes : goal.returns-in-Ok-clause-takes
returns-in-Ok-clause-takes g c = λ start a read few t.
    let h = g.H.Host in
    let s = g.E.Engine.stands c.args.engine in
    let short = tokens_few read t.rest t.pieces t.cut in
    match_weaker c.take_end.result _ _ _ _
    (λ next is. all_taken h.disk h.printed h.clock h.might start s a read _ _ c.args.host.now t c.finish-fed.result c.finish-fed.new.self c.finish-fed.ensures c.take_end.new.host is)
    (λ f is. end_ended h.disk h.printed h.clock h.might start s a read _ _ c.args.host.now t c.finish-fed.result c.finish-fed.new.self c.finish-fed.ensures f c.take_end.new.host is)
    (c.take_end.ensures.takes start a _ (lines_few _ c.finish-fed.result c.finish-fed.new.self.bytes (omega (arith, few, short))) (c.in-Ok.ensures.takes start a _ (omega (arith, few, short)) t.takes))

pub returns-in-Err-clause-takes : goal.returns-in-Err-clause-takes
returns-in-Err-clause-takes g c = λ start a read few t.
    let h = g.H.Host in
    let s = g.E.Engine.stands c.args.engine in
    last_ended h.disk h.printed h.clock h.might start s a read _ _ c.args.host.now t c.finish-fed.result c.finish-fed.new.self c.finish-fed.ensures c.in-Err.fault c.take_fed.new.host
    (c.in-Err.ensures.takes start a _ (omega (arith, few, tokens_few read t.rest t.pieces t.cut)) t.takes)
