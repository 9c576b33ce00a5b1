use Rattle.std.proofs.Common.{All}
use Rattle.completion.specs.Numbered.{IsRowOf}
use Rattle.completion.proofs.tests.base.Given as goal

abbrev pub invariant-loop-row : goal.invariant-loop-row
invariant-loop-row l = All (IsRowOf l.rules) l.base
