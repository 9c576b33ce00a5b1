use Rattle.std.proofs.Common.{take}
use Rattle.join_ops.specs.Planned.{AddsTwins, AreTwinsBy}
use Rattle.join_ops.proofs.twins.add_twins.Given as goal

abbrev pub invariant-loop-entry : goal.invariant-loop-entry
invariant-loop-entry l = AddsTwins (AreTwinsBy l.levels (take l.entry-index l.entries)) l.fn.conditions.items l.conditions.items
