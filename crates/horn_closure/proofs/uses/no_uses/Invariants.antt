use Rattle.std.proofs.Common.{ℕ, ◌≡◌, [], length, slice_index_or}
use Rattle.horn_closure.proofs.uses.no_uses.Given as goal

abbrev pub invariant-loop : goal.invariant-loop
invariant-loop l = record {
  places : length l.uses.items ≡ l.counter;
  each : (p : ℕ) → slice_index_or l.uses.items p [] ≡ [];
}
