use Rattle.std.proofs.Common.{◌≡◌, ◌<◌, ◌≤◌, ◌+◌, [], length, drop, get_or, slice_index, slice_index_or, arith, refl}
use Rattle.horn_closure.specs.Run.{count, uses_at}
use Rattle.horn_closure.proofs.EndLemmas.{place_within, uses_read, uses_next, drop_all}
use Rattle.horn_closure.proofs.run.give_back_all.Goals as goal

pub loop-place-init : goal.loop-place-init
loop-place-init c = λ k below. rw c.places-place-items.ensures refl

pub give_back-requires-clause-inside : goal.give_back-requires-clause-inside
give_back-requires-clause-inside c =
    let us : c.items.result.now ≡ slice_index_or c.args.uses.now (get_or c.places-place-items.result.now c.loop-place.place-index 0) [] =
    uses_read _ _ _ _ _ c.loop-place.place-index c.requires.queue c.places-place-items.ensures c.loop-place-test.true c.items.ensures c.index-uses-place.is in
    let same : length c.loop-place.left ≡ length c.args.left.now = c.loop-place.auto.left in
    let placed : get_or c.places-place-items.result.now c.loop-place.place-index 0 < length c.args.uses.now = place_within _ _ _ _ c.requires.queue c.places-place-items.ensures c.loop-place-test.true in
    rw (us, same) (c.requires.inside _ placed)

pub give_back-requires-clause-few : goal.give_back-requires-clause-few
give_back-requires-clause-few c = λ i below.
    let us : c.items.result.now ≡ slice_index_or c.args.uses.now (get_or c.places-place-items.result.now c.loop-place.place-index 0) [] =
    uses_read _ _ _ _ _ c.loop-place.place-index c.requires.queue c.places-place-items.ensures c.loop-place-test.true c.items.ensures c.index-uses-place.is in
    let next : uses_at i c.args.uses.now (drop c.loop-place.place-index c.places-place-items.result.now) ≡ count i c.items.result.now + uses_at i c.args.uses.now (drop (c.loop-place.place-index + 1) c.places-place-items.result.now) =
    uses_next _ _ _ _ i c.loop-place-test.true us in
    let same : length c.loop-place.left ≡ length c.args.left.now = c.loop-place.auto.left in
    let inside : i < length c.args.left.now = omega arith in
    let kept : slice_index c.loop-place.left i + uses_at i c.args.uses.now (drop c.loop-place.place-index c.places-place-items.result.now) ≡ slice_index c.args.left.now i + uses_at i c.args.uses.now c.args.queue.now = c.loop-place.invariant i inside in
    let few : slice_index c.args.left.now i + uses_at i c.args.uses.now c.args.queue.now ≤ 8 = c.requires.few i inside in
    omega arith

pub loop-place-preserved : goal.loop-place-preserved
loop-place-preserved c = λ i below.
    let us : c.items.result.now ≡ slice_index_or c.args.uses.now (get_or c.places-place-items.result.now c.loop-place.place-index 0) [] =
    uses_read _ _ _ _ _ c.loop-place.place-index c.requires.queue c.places-place-items.ensures c.loop-place-test.true c.items.ensures c.index-uses-place.is in
    let next : uses_at i c.args.uses.now (drop c.loop-place.place-index c.places-place-items.result.now) ≡ count i c.items.result.now + uses_at i c.args.uses.now (drop (c.loop-place.place-index + 1) c.places-place-items.result.now) =
    uses_next _ _ _ _ i c.loop-place-test.true us in
    let same : length c.loop-place.left ≡ length c.args.left.now = c.loop-place.auto.left in
    let given : slice_index c.give_back.new.left i ≡ slice_index c.loop-place.left i + count i c.items.result.now = c.give_back.ensures i (omega arith) in
    let kept : slice_index c.loop-place.left i + uses_at i c.args.uses.now (drop c.loop-place.place-index c.places-place-items.result.now) ≡ slice_index c.args.left.now i + uses_at i c.args.uses.now c.args.queue.now = c.loop-place.invariant i below in
    omega arith

pub returns : goal.returns
returns c = λ i below.
    let ended : drop c.loop-place.place-index c.places-place-items.result.now ≡ [] = drop_all _ c.loop-place.place-index c.loop-place-test.false in
    let all : slice_index c.loop-place.left i + 0 ≡ slice_index c.args.left.now i + uses_at i c.args.uses.now c.args.queue.now = rw ended at (c.loop-place.invariant i below) in
    omega arith
