use Rattle.std.proofs.Common.{◌≡◌, map, take}
use Rattle.join_ops.specs.Levels.{AreLevels, fixed_on}
use Rattle.join_ops.proofs.level.levels.Given as goal

abbrev pub invariant-loop-level : goal.invariant-loop-level
invariant-loop-level l = record {
  fixed : map fixed_on l.levels.items ≡ take l.level l.fixed;
  each : AreLevels l.conditions l.levels.items;
}
