use Rattle.std.proofs.Common.{◌≡◌, ◌<◌, ℕ, All, get_or, vec_len}
use Rattle.answer_core.specs.Ranks.{HasNumber, HasItsName}
use Rattle.answer_core.proofs.ranks.by_name.Given as goal

abbrev pub invariant-loop-number : goal.invariant-loop-number
invariant-loop-number l = record {
  named : All (HasItsName l.individuals) l.order.items;
  each : (k : ℕ) → k < l.number-index → HasNumber l.order.items (get_or l.numbers k 0);
  count : vec_len l.order ≡ l.number-index;
}
