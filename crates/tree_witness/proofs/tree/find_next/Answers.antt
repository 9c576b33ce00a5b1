use Rattle.std.proofs.Common.{refl, Contains, arith}
use Rattle.std.proofs.lemmas.Option.{slice_get_read}
use Rattle.tree_witness.specs.Trees.{IsShut}
use Rattle.tree_witness.specs.declared.oriented.OrientedAtom.{OrientedAtom}
use Rattle.tree_witness.proofs.LoopLemmas.{up_to_more, up_to_all}
use Rattle.tree_witness.proofs.tree.find_next.Goals as goal

pub loop-place-preserved : goal.loop-place-preserved
loop-place-preserved c =
    up_to_more (λ h. (a : OrientedAtom) → Contains c.args.oriented.now a → IsShut c.args.root c.args.tree.now h a) c.args.tree.now c.loop-place.place c.index-tree-place.result
    (slice_get_read c.args.tree.now _ _ _ refl c.loop-place-test.true c.index-tree-place.is) c.loop-place.invariant c.in_default.ensures

pub returns : goal.returns
returns c = λ h a there. up_to_all (λ h. (a : OrientedAtom) → Contains c.args.oriented.now a → IsShut c.args.root c.args.tree.now h a) c.args.tree.now c.loop-place.place (omega (arith, c.loop-place-test.false)) c.loop-place.invariant h there a
