use Rattle.std.proofs.Common.{◌≡◌, ◌<◌, ◌-◌, arith, refl, length, slice_index, slice_set, get_or-set_same}
use Rattle.horn_closure.proofs.RunLemmas.{settled_some, settled_basic, settled_nothing}
use Rattle.horn_closure.proofs.run.settle.Goals as goal

pub returns-then-left-at-gt0 : goal.returns-then-left-at-gt0
returns-then-left-at-gt0 c = λ remaining visited s.
    let inside : c.args.i < length c.args.left.now = omega arith in
    let now : slice_index (slice_set c.args.left.now c.args.i (slice_index c.args.left.now c.args.i - 1)) c.args.i ≡ slice_index c.args.left.now c.args.i - 1 = get_or-set_same _ _ _ 0 inside in
    settled_some _ _ _ remaining visited _ _ _ c.requires.inside (omega arith) (omega arith) s

pub returns-in-Basic : goal.returns-in-Basic
returns-in-Basic c = λ remaining visited s.
    let inside : c.args.i < length c.args.left.now = omega arith in
    let now : slice_index (slice_set c.args.left.now c.args.i (slice_index c.args.left.now c.args.i - 1)) c.args.i ≡ slice_index c.args.left.now c.args.i - 1 = get_or-set_same _ _ _ 0 inside in
    settled_basic _ _ _ _ c.in-Basic.b remaining visited _ _ _ _ _ c.requires.inside c.requires.within c.in-Basic.is (omega arith) (omega arith) refl c.mark.ensures s

pub returns-in-Nothing : goal.returns-in-Nothing
returns-in-Nothing c = λ remaining visited s.
    let inside : c.args.i < length c.args.left.now = omega arith in
    let now : slice_index (slice_set c.args.left.now c.args.i (slice_index c.args.left.now c.args.i - 1)) c.args.i ≡ slice_index c.args.left.now c.args.i - 1 = get_or-set_same _ _ _ 0 inside in
    settled_nothing _ _ _ _ c.least.result remaining visited _ _ _ _ c.requires.inside c.in-Nothing.is (omega arith) (omega arith) refl refl c.least.ensures s
