use Rattle.std.proofs.Common.{arith, false}
use Rattle.tree_witness.proofs.EntryLemmas.{entries_more, entries_all}
use Rattle.tree_witness.proofs.trees.entries.Goals as goal

pub loop-atom-preserved : goal.loop-atom-preserved
loop-atom-preserved c =
    rw c.in_ok-push.ensures.items (entries_more c.args.terms c.args.oriented.now c.loop-atom.atom-index c.loop-atom.entries.items (record { role = record { name = 0; inverse = false }; from = 0; to = 0 }) c.in_ok-tree.tree c.loop-atom-test.true
    c.requires c.loop-atom.invariant c.in_ok-tree.ensures.tree c.in_ok-tree.ensures.below)

pub returns : goal.returns
returns c = rw c.from_vec.ensures (entries_all c.args.terms c.args.oriented.now c.loop-atom.atom-index c.loop-atom.entries.items (omega (arith, c.loop-atom-test.false)) c.loop-atom.invariant)
