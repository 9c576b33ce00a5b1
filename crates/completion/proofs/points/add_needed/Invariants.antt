use Rattle.completion.proofs.NeededLemmas.{AddsBelow}
use Rattle.completion.specs.Points.{IsNeeded}
use Rattle.completion.proofs.points.add_needed.Given as goal

abbrev pub invariant-loop-name : goal.invariant-loop-name
invariant-loop-name l = record {
  one : AddsBelow (IsNeeded l.closed.derived l.held) l.name l.initial.one l.one;
  other : AddsBelow (IsNeeded l.closed.derived l.held) l.name l.initial.other l.other;
}
