use Rattle.std.proofs.Common.{◌≡◌, drop}
use Rattle.grammar.specs.Numbers.{digits_at}
use Rattle.grammar.proofs.numbers.digits.Given as goal

abbrev pub invariant-loop-i : goal.invariant-loop-i
invariant-loop-i l = digits_at l.most l.number (drop l.i l.text) ≡ digits_at l.most l.fn.first l.text
