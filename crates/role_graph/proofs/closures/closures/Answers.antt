use Rattle.std.proofs.Common.{◌∙◌, arith}
use Rattle.role_graph.proofs.ClosuresLemmas.{closures_more}
use Rattle.role_graph.proofs.closures.closures.Goals as goal

pub loop-name-preserved : goal.loop-name-preserved
loop-name-preserved g c = record {
  closures = closures_more c.args.rules.now.inclusions c.loop-name.name c.loop-name.closed.items c.push.new.self.items c.closed_both_ways.result c.in_ok-push.ensures.items c.closed_both_ways.ensures.closures c.loop-name.invariant.closures;
  scratch = c.closed_both_ways.ensures.scratch ∙ c.loop-name.invariant.scratch;
  cost = (let a = c.closed_both_ways.ensures.cost in let b = c.loop-name.invariant.cost in omega arith);
}
