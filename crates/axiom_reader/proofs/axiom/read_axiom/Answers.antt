use Rattle.axiom_reader.proofs.MeaningRules.{has_members}
use Rattle.axiom_reader.proofs.axiom.read_axiom.Goals as goal

pub axiom_of-requires : goal.axiom_of-requires
axiom_of-requires c = has_members c.args.text.now c.in_ok-tree.tree c.in_ok-tree.ensures.found
