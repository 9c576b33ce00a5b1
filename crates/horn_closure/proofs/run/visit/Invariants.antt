use Rattle.std.proofs.Common.{◌+◌, take, drop}
use Rattle.horn_closure.specs.Run.{IsRun, MarksDerived}
use Rattle.horn_closure.proofs.run.visit.Given as goal

abbrev pub invariant-loop-i : goal.invariant-loop-i
invariant-loop-i l = record {
  run : IsRun l.inclusions (drop l.i-index l.i-items) (take (l.head + 1) l.fn.queue) l.queue l.found l.left;
  advances : MarksDerived l.inclusions l.fn.found.derived l.fn.queue l.found.derived l.queue;
}
