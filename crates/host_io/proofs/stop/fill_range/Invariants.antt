use Rattle.std.proofs.Common.{◌≡◌, ◌≤◌, ◌<◌, ◌⊎◌, ℕ, get_or, length}
use Rattle.host_io.proofs.stop.fill_range.Given as goal

abbrev pub invariant-loop-i : goal.invariant-loop-i
invariant-loop-i l = (length l.bytes ≡ length l.initial.bytes)
    × ((k : ℕ) → l.from ≤ k → k < l.i → get_or l.bytes k 0 ≡ l.fill)
    × ((k : ℕ) → get_or l.initial.bytes k 0 ≡ l.fill → k < length l.initial.bytes → get_or l.bytes k 0 ≡ l.fill)
    × ((k : ℕ) → (k < l.from) ⊎ (l.i ≤ k) → get_or l.bytes k 0 ≡ get_or l.initial.bytes k 0)
