use Rattle.axiom_reader.specs.AxiomMeaning.{concept_names_of, role_names_of, in_members}
use Rattle.axiom_reader.proofs.NamesRules.{AddsAlong}
use Rattle.axiom_reader.proofs.vocabulary.Vocabulary.add_sides.Given as goal

abbrev pub invariant-loop-side : goal.invariant-loop-side
invariant-loop-side l = AddsAlong (in_members concept_names_of) (in_members role_names_of) l.sides l.fn.self l.self l.side-index
