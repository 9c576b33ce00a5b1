use Rattle.std.proofs.Common.{arith}
use Rattle.run_loop.proofs.ByteLemmas.{bytes_taken, bytes_ended, fed_told, tokens_few}
use Rattle.run_loop.proofs.pieces.take_part.Goals as goal

pub take_fed-requires-clause-fed : goal.take_fed-requires-clause-fed
take_fed-requires-clause-fed g c = fed_told c.args.bytes.now c.feed-count.result.0 c.feed-count.result.1 _ _ c.feed-count.ensures.tells

pub returns-in-Ok-clause-takes : goal.returns-in-Ok-clause-takes
returns-in-Ok-clause-takes g c = λ start a read few t.
    let h = g.H.Host in
    let s = g.E.Engine.stands c.args.engine in
    bytes_taken h.disk h.printed h.clock h.might start s a read _ _ c.args.host.now t c.args.bytes.now c.feed-count.result.0 c.feed-count.result.1 _ c.feed-count.ensures.tells (g.E.Engine.stands c.in-Ok.next) _ c.take_fed.new.host
    (c.in-Ok.ensures.takes start a _ (omega (arith, few, tokens_few read t.rest t.pieces t.cut)) t.takes)

pub returns-in-Err-clause-takes : goal.returns-in-Err-clause-takes
returns-in-Err-clause-takes g c = λ start a read few t.
    let h = g.H.Host in
    let s = g.E.Engine.stands c.args.engine in
    bytes_ended h.disk h.printed h.clock h.might start s a read _ _ c.args.host.now t c.args.bytes.now c.feed-count.result.0 c.feed-count.result.1 _ c.feed-count.ensures.tells c.in-Err.fault c.take_fed.new.host
    (c.in-Err.ensures.takes start a _ (omega (arith, few, tokens_few read t.rest t.pieces t.cut)) t.takes)
