use Rattle.tree_witness.proofs.EntryLemmas.{AreEntriesUpTo}
use Rattle.tree_witness.proofs.trees.entries.Given as goal

abbrev pub invariant-loop-atom : goal.invariant-loop-atom
invariant-loop-atom l = AreEntriesUpTo l.terms l.oriented l.atom-index l.entries.items
