use Rattle.std.proofs.Common.{◌≡◌, ◌<◌, ◌+◌, length, drop, get_or, slice_index, arith, []}
use Rattle.horn_closure.specs.Run.{count}
use Rattle.horn_closure.proofs.EndLemmas.{give_one, give_most, drop_all}
use Rattle.horn_closure.proofs.run.give_back.Goals as goal

pub overflow_add-left : goal.overflow_add-left
overflow_add-left c =
    let inside : get_or c.args.uses.now c.loop-i.i-index 0 < length c.args.left.now = c.requires.inside c.loop-i.i-index 0 c.loop-i-test.true in
    let most : slice_index c.loop-i.left (get_or c.args.uses.now c.loop-i.i-index 0) < 8 = give_most c.args.uses.now c.loop-i.left c.args.left.now c.loop-i.i-index c.loop-i-test.true (c.loop-i.invariant _ inside) (c.requires.few _ inside) in
    omega arith

pub loop-i-preserved : goal.loop-i-preserved
loop-i-preserved c = λ k below.
    let inside : get_or c.args.uses.now c.loop-i.i-index 0 < length c.args.left.now = c.requires.inside c.loop-i.i-index 0 c.loop-i-test.true in
    give_one c.args.uses.now c.loop-i.left c.args.left.now c.loop-i.i-index k c.loop-i-test.true (omega arith) (c.loop-i.invariant k below)

pub returns : goal.returns
returns c = λ k below.
    let ended : drop c.loop-i.i-index c.args.uses.now ≡ [] = drop_all _ c.loop-i.i-index c.loop-i-test.false in
    let all : slice_index c.loop-i.left k + 0 ≡ slice_index c.args.left.now k + count k c.args.uses.now = rw ended at (c.loop-i.invariant k below) in
    omega arith
