use Rattle.std.proofs.Common.{subst, Option}
use Rattle.axiom_reader.specs.Block.{Progress}
use Rattle.run_loop.specs.Taking.{Takes}
use Rattle.run_loop.proofs.taking.take_line.Goals as goal

pub returns-in-Some-clause-takes : goal.returns-in-Some-clause-takes
returns-in-Some-clause-takes g c = λ start a tokens few t.
    let h = g.H.Host in
    c.take_inside.ensures.takes start a tokens few (subst (λ (b : Option Progress). Takes h.disk h.printed h.clock h.might start (g.E.Engine.stands c.args.engine) a tokens b c.args.host.now) c.in-Some.is t)
