use Rattle.std.proofs.Common.{◌↔◌, ℕ, Contains, take}
use Rattle.answer_core.specs.Ranks.{IsInRow, items_of}
use Rattle.answer_core.proofs.rows.numbers_in.Given as goal

abbrev pub invariant-loop-key : goal.invariant-loop-key
invariant-loop-key l = (n : ℕ) → Contains l.numbers.items n ↔ IsInRow (items_of (take l.key-index l.keys)) n
