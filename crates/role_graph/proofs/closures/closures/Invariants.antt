use Rattle.std.proofs.Common.{◌≡◌, ◌+◌, ◌*◌}
use Rattle.role_graph.specs.Behind.{AreClosures}
use Rattle.role_graph.proofs.closures.closures.Given as goal

abbrev pub invariant-loop-name : goal.invariant-loop-name
invariant-loop-name g l = record {
  closures : AreClosures l.rules.inclusions l.name l.closed.items;
  scratch : l.scratch ≡ l.initial.scratch;
  cost : l.steps ≡ l.initial.steps + 2 * l.name;
}
