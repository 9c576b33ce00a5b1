use Rattle.join_ops.specs.Planned.{AddsTwins, IsTopBy}
use Rattle.join_ops.proofs.twins.add_tops.Given as goal

abbrev pub invariant-loop-reached : goal.invariant-loop-reached
invariant-loop-reached l = AddsTwins (IsTopBy l.levels l.atom l.tree) l.fn.conditions.items l.conditions.items
