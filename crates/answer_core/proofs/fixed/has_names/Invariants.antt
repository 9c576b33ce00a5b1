use Rattle.answer_core.specs.Binding.{IsKnownTerm}
use Rattle.answer_core.proofs.TermLemmas.{AllBefore}
use Rattle.answer_core.proofs.fixed.has_names.Given as goal

abbrev pub invariant-loop-number : goal.invariant-loop-number
invariant-loop-number l = AllBefore (IsKnownTerm l.individuals) l.shape.terms l.number
