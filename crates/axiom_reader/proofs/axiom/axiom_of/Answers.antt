use Rattle.std.proofs.Common.{◌∙◌, ap, ◌++◌, List}
use Rattle.dl_base.specs.declared.axiom.NamedInclusion.{NamedInclusion}
use Rattle.axiom_reader.specs.AxiomMeaning.{inclusions_of}
use Rattle.axiom_reader.proofs.MeaningRules.{lists_are_statement}
use Rattle.axiom_reader.proofs.axiom.axiom_of.Goals as goal

pub new-requires : goal.new-requires
new-requires c =
    lists_are_statement c.args.tree.now c.add_axiom.new.self c.add_inclusions.new.inclusions c.requires
    (rw c.new-names.ensures at c.in_ok-add_axiom.ensures)
    (c.in_ok-add_inclusions.ensures ∙ ap (λ (is : List NamedInclusion). is ++ inclusions_of c.args.tree.now) c.new-inclusions.ensures)
