use Rattle.std.proofs.Common.{◌≡◌, ◌↔◌, ℕ, ◌<◌, length}
use Rattle.join_plan.specs.Plans.{IsNameTerm}
use Rattle.join_plan.specs.Choice.{IsMarked}
use Rattle.join_plan.proofs.known.marked_names.Given as goal

abbrev pub invariant-loop-number : goal.invariant-loop-number
invariant-loop-number l = record {
  count : length l.known.items ≡ l.number;
  each : (k : ℕ) → k < l.number → IsMarked l.known.items k ↔ IsNameTerm l.s k;
}
