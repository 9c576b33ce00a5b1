use Rattle.std.proofs.Common.{[], ◌-◌, ◌≤◌, length, take}
use Rattle.horn_closure.specs.Run.{IsRun, MarksDerived}
use Rattle.horn_closure.proofs.run.saturate.Given as goal

abbrev pub invariant-loop-head : goal.invariant-loop-head
invariant-loop-head l = record {
  inside : l.head ≤ length l.queue;
  run : IsRun l.inclusions [] (take l.head l.queue) l.queue l.found l.left;
  advances : MarksDerived l.inclusions l.fn.found.derived l.fn.queue l.found.derived l.queue;
}

abbrev pub decreases-loop-head : goal.decreases-loop-head
decreases-loop-head l = 1024 - l.head
