use Rattle.axiom_reader.specs.AxiomMeaning.{concept_names_of, role_names_of}
use Rattle.axiom_reader.proofs.NamesRules.{AddsAlong}
use Rattle.axiom_reader.proofs.vocabulary.Vocabulary.add_members.Given as goal

abbrev pub invariant-loop-basic : goal.invariant-loop-basic
invariant-loop-basic l = AddsAlong concept_names_of role_names_of l.members l.fn.self l.self l.basic-index
