use Rattle.std.proofs.Common.{◌≡◌, ◌<◌, ◌≤◌, ◌==◌, ℕ, slice_index, if◌then◌else◌}
use Rattle.match_filter.proofs.classes.renumber.Given as goal

abbrev pub invariant-loop-class : goal.invariant-loop-class
invariant-loop-class l = record {
  done : (k : ℕ) → k < l.class-index → slice_index l.classes k ≡ (if slice_index l.fn.classes k == l.from then l.to else slice_index l.fn.classes k);
  ahead : (k : ℕ) → l.class-index ≤ k → slice_index l.classes k ≡ slice_index l.fn.classes k;
}
