use Rattle.std.proofs.Common.{◌≡◌, ◌+◌, ◌∷◌, ◌<◌, drop, take, length, get_or, arith}
use Rattle.horn_closure.specs.Run.{AreUses}
use Rattle.horn_closure.proofs.RunLemmas.{uses_of_place, visited_next, nothing_advances, advances_both, next_left, some_left, same_front, none_remain}
use Rattle.horn_closure.proofs.run.visit.Goals as goal

pub loop-i-init : goal.loop-i-init
loop-i-init c = record {
  run = visited_next _ _ _ _ _ _ c.requires.inside (uses_of_place _ _ _ _ _ _ _ _ c.requires.rules c.requires.run.marks c.requires.inside c.places.ensures c.items-i-items.ensures c.index-uses-place.is) c.requires.run;
  advances = nothing_advances _ _ _;
}

pub settle-requires-clause-inside : goal.settle-requires-clause-inside
settle-requires-clause-inside c =
    let uses : AreUses c.args.inclusions.now (get_or c.args.queue.now c.args.head 0) c.items-i-items.result.now =
    uses_of_place _ _ _ _ _ _ _ _ c.requires.rules c.requires.run.marks c.requires.inside c.places.ensures c.items-i-items.ensures c.index-uses-place.is in
    uses.inside c.loop-i.i-index 0 c.loop-i-test.true

pub settle-requires-clause-some : goal.settle-requires-clause-some
settle-requires-clause-some c =
    let uses : AreUses c.args.inclusions.now (get_or c.args.queue.now c.args.head 0) c.items-i-items.result.now =
    uses_of_place _ _ _ _ _ _ _ _ c.requires.rules c.requires.run.marks c.requires.inside c.places.ensures c.items-i-items.ensures c.index-uses-place.is in
    let step : drop c.loop-i.i-index c.items-i-items.result.now ≡ get_or c.items-i-items.result.now c.loop-i.i-index 0 ∷ drop (c.loop-i.i-index + 1) c.items-i-items.result.now = next_left _ _ c.loop-i-test.true in
    some_left _ _ _ _ _ _ _ (uses.inside c.loop-i.i-index 0 c.loop-i-test.true) (rw step at c.loop-i.invariant.run)

pub loop-i-preserved : goal.loop-i-preserved
loop-i-preserved c =
    let step : drop c.loop-i.i-index c.items-i-items.result.now ≡ get_or c.items-i-items.result.now c.loop-i.i-index 0 ∷ drop (c.loop-i.i-index + 1) c.items-i-items.result.now = next_left _ _ c.loop-i-test.true in
    let both = c.settle.ensures (drop (c.loop-i.i-index + 1) c.items-i-items.result.now) _ (rw step at c.loop-i.invariant.run) in
    record { run = both.0; advances = advances_both _ _ _ _ _ _ _ c.loop-i.invariant.advances both.1 }

pub returns-clause-run : goal.returns-clause-run
returns-clause-run c =
    let same : take (c.args.head + 1) c.loop-i.queue ≡ take (c.args.head + 1) c.args.queue.now =
    same_front _ _ c.loop-i.invariant.advances.longer.0 (c.args.head + 1) c.loop-i.invariant.advances.longer.1 (let inside : c.args.head < length c.args.queue.now = c.requires.inside in omega arith) in
    rw same (none_remain _ c.items-i-items.result.now _ _ _ _ c.loop-i.i-index c.loop-i-test.false c.loop-i.invariant.run)
