use Rattle.std.proofs.Common.{All}
use Rattle.completion.specs.Numbered.{IsRowOf}
use Rattle.clash_report.proofs.tests.base.Given as goal

abbrev pub invariant-loop-individual : goal.invariant-loop-individual
invariant-loop-individual l = All (IsRowOf l.rules) l.base
