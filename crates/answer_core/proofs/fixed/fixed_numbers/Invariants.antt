use Rattle.std.proofs.Common.{take}
use Rattle.std.specs.List.{AllZip}
use Rattle.answer_core.specs.Binding.{IsFixedTerm}
use Rattle.answer_core.proofs.fixed.fixed_numbers.Given as goal

abbrev pub invariant-loop-number : goal.invariant-loop-number
invariant-loop-number l = AllZip (IsFixedTerm l.individuals) (take l.number l.shape.terms) l.fixed.items
