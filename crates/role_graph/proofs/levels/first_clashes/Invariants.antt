use Rattle.std.proofs.Common.{◌+◌, ◌*◌, length}
use Rattle.role_graph.specs.Levels.{IsLevel, unknown}
use Rattle.role_graph.proofs.levels.first_clashes.Given as goal

abbrev pub invariant-loop-alloc : goal.invariant-loop-alloc
invariant-loop-alloc l = IsLevel l.rules l.clashes.items l.level.items

abbrev pub decreases-loop-alloc : goal.decreases-loop-alloc
decreases-loop-alloc l = 2 * unknown l.clashes.items + length l.level.items
