use Rattle.std.proofs.Common.{false, Option, subst}
use Rattle.axiom_reader.specs.Block.{Progress}
use Rattle.script_reader.specs.Requests.{Finished}
use Rattle.run_loop.specs.Taking.{Takes}
use Rattle.run_loop.proofs.RequestLemmas.{match_weaker}
use Rattle.run_loop.proofs.ScriptLemmas.{whole_block, ended_answered, all_answered, takes_all}
use Rattle.run_loop.proofs.taking.take_end.Goals as goal

pub returns-in-Some-clause-takes : goal.returns-in-Some-clause-takes
returns-in-Some-clause-takes g c = λ start a tokens few u.
    let h = g.H.Host in
    let s = g.E.Engine.stands c.args.engine in
    let t = subst (λ (b : Option Progress). Takes h.disk h.printed h.clock h.might start s a tokens b c.args.host.now) c.in-Some.is u in
    let whole = whole_block h.disk h.printed h.clock h.might start s a tokens Finished false c.in-Some.block c.finish.result c.block_request.result c.args.host.now few t c.block_request.ensures.is tt c.finish.ensures in
    match_weaker c.answer.result _ _ _ _
    (λ next done. all_answered h.disk h.printed h.clock h.might start a _ _ done.0 c.answer.new.host whole done.2)
    (λ f ended. ended_answered h.disk h.printed h.clock h.might start a _ _ f c.answer.new.host whole ended)
    (c.answer.ensures.serves start a t.requests t.state t.stands_for t.serves)

pub returns-in-None-clause-takes : goal.returns-in-None-clause-takes
returns-in-None-clause-takes g c = λ start a tokens few u.
    let h = g.H.Host in
    let s = g.E.Engine.stands c.args.engine in
    takes_all h.disk h.printed h.clock h.might start s a tokens c.args.host.now (subst (λ (b : Option Progress). Takes h.disk h.printed h.clock h.might start s a tokens b c.args.host.now) c.in-None.is u)
