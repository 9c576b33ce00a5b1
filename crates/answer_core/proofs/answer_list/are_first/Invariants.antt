use Rattle.std.proofs.Common.{ℕ, ◌<◌}
use Rattle.answer_core.specs.Found.{IsLevelOfOne}
use Rattle.answer_core.proofs.answer_list.are_first.Given as goal

abbrev pub invariant-loop-level : goal.invariant-loop-level
invariant-loop-level l = (k : ℕ) → k < l.level → IsLevelOfOne l.levels l.places k
