use Rattle.std.proofs.Common.{◌++◌, [], ◌∷◌, take}
use Rattle.join_ops.specs.Levels.{MeetsAll}
use Rattle.join_ops.proofs.level.passes.Given as goal

abbrev pub invariant-loop-place : goal.invariant-loop-place
invariant-loop-place g l = MeetsAll (g.T.Tables.rows l.t) l.conditions (take l.place-index l.checks) (l.front ++ l.e ∷ [])
