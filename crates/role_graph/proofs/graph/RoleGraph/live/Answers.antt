use Rattle.dl_base.specs.Sets.{HasRole}
use Rattle.role_graph.proofs.ReachedLemmas.{reached_none, reached_more, all_reached, reached_inside, reached_is_live}
use Rattle.dl_base.proofs.SetLemmas.{fewer_unset}
use Rattle.role_graph.proofs.graph.RoleGraph.live.Goals as goal

pub loop-s-init : goal.loop-s-init
loop-s-init c = λ o is. reached_none o c.args.from.now c.new-done.result c.new-done.ensures

pub loop-s-smaller : goal.loop-s-smaller
loop-s-smaller c = fewer_unset c.loop-s.done c.add.new.self c.in-Some.s c.in-Some.ensures.0.placed c.add.ensures c.in-Some.ensures.1

pub loop-s-preserved : goal.loop-s-preserved
loop-s-preserved c = λ o is.
    reached_more o c.args.from.now c.loop-s.live c.loop-s.done c.add_points.new.live c.add.new.self c.in-Some.s (c.loop-s.invariant o is) c.in-Some.ensures.0 c.add.ensures (c.add_points.ensures o is)

pub returns-clause-reached : goal.returns-clause-reached
returns-clause-reached c = λ o is. all_reached o c.args.self.now is c.args.from.now c.loop-s.live c.loop-s.done (c.loop-s.invariant o is) c.in_default.ensures

pub returns-clause-live : goal.returns-clause-live
returns-clause-live c = λ o rows is are r.
    let reached = all_reached o c.args.self.now is c.args.from.now c.loop-s.live c.loop-s.done (c.loop-s.invariant o is) c.in_default.ensures r in
    let live = reached_is_live o rows (HasRole c.args.from.now) are r in
    (λ has. live.0 (reached.0 has), λ is_live. reached.1 (live.1 is_live))

pub returns-clause-inside : goal.returns-clause-inside
returns-clause-inside c = λ o is inside r has.
    let reached = all_reached o c.args.self.now is c.args.from.now c.loop-s.live c.loop-s.done (c.loop-s.invariant o is) c.in_default.ensures r in
    reached_inside o c.args.self.now is (HasRole c.args.from.now) inside (reached.0 has)
