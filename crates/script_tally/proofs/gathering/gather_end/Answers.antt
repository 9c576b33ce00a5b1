use Rattle.std.proofs.Common.{Option, false, subst}
use Rattle.std.proofs.lemmas.Result.{on_ok_weaker}
use Rattle.axiom_reader.specs.Block.{Progress}
use Rattle.script_reader.specs.Requests.{Finished}
use Rattle.script_tally.specs.Gathering.{Gathers}
use Rattle.script_tally.proofs.GatherLemmas.{gathers_block, gathers_end}
use Rattle.script_tally.proofs.gathering.gather_end.Goals as goal

pub returns-in-Some : goal.returns-in-Some
returns-in-Some c = λ tokens few g.
    let begun = subst (λ (b : Option Progress). Gathers tokens c.args.requests.now b) c.in-Some.is g in
    on_ok_weaker c.push.result
    (gathers_block tokens c.args.requests.now Finished false c.in-Some.block c.finish.result c.block_request.result c.push.new.self few begun c.block_request.ensures.is c.block_request.ensures.given tt c.finish.ensures)
    c.push.ensures.ok

pub returns-in-None : goal.returns-in-None
returns-in-None c = λ tokens few g. gathers_end tokens c.args.requests.now (subst (λ (b : Option Progress). Gathers tokens c.args.requests.now b) c.in-None.is g)
