use Rattle.std.proofs.Common.{◌≡◌, take}
use Rattle.join_ops.specs.Planned.{leveled_atoms}
use Rattle.join_ops.proofs.order.atoms_by_level.Given as goal

abbrev pub invariant-loop-step : goal.invariant-loop-step
invariant-loop-step l = l.atoms.items ≡ leveled_atoms l.levels (take l.step-index l.steps)
