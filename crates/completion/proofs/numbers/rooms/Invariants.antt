use Rattle.std.proofs.Common.{◌≡◌, ℕ, List, [], length, All}
use Rattle.completion.proofs.numbers.rooms.Given as goal

abbrev pub invariant-loop-count : goal.invariant-loop-count
invariant-loop-count l = (length l.rooms.items ≡ l.count-index) × All (λ (n : List ℕ). n ≡ []) l.rooms.items
