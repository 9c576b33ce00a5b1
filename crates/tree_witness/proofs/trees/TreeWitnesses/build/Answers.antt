use Rattle.std.proofs.Common.{ℕ, List, All, sym, ◌∙◌, ap, subst}
use Rattle.tree_witness.specs.Trees.{IsOrientedBelow, oriented_atoms}
use Rattle.tree_witness.specs.declared.oriented.OrientedAtom.{OrientedAtom}
use Rattle.tree_witness.proofs.OrientedAtomLemmas.{ends_below}
use Rattle.tree_witness.proofs.trees.TreeWitnesses.build.Goals as goal

pub entries-requires : goal.entries-requires
entries-requires c =
    subst (λ (as' : List OrientedAtom). All (IsOrientedBelow c.terms-terms.result) as') (sym (c.items.ensures ∙ (c.in_ok-oriented.ensures ∙ ap oriented_atoms c.atoms.ensures.list)))
    (subst (λ (n : ℕ). All (IsOrientedBelow n) (oriented_atoms c.args.s.now.atoms)) (sym c.terms-terms.ensures.count) (ends_below _ c.args.s.now.atoms c.terms-terms.ensures.layout.below))
