use Rattle.std.proofs.Common.{ℕ, ◌≡◌, ◌<◌, [], length, slice_index_or}
use Rattle.horn_closure.proofs.UsesLemmas.{UsesBelow}
use Rattle.horn_closure.proofs.uses.all_uses.Given as goal

abbrev pub invariant-loop-i : goal.invariant-loop-i
invariant-loop-i l = record {
  places : length l.uses.items ≡ 1024;
  each : (p : ℕ) → p < 1024 → UsesBelow l.inclusions p l.i (slice_index_or l.uses.items p []);
}
