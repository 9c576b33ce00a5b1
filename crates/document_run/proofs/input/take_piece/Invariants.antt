use Rattle.std.proofs.Common.{◌≡◌, ◌<◌, ◌+◌, ◌^◌, ◌++◌, ℕ, List, length}
use Rattle.document_run.specs.Run.{IsReading}
use Rattle.document_run.proofs.input.take_piece.Given as goal

abbrev pub invariant-loop-rest : goal.invariant-loop-rest
invariant-loop-rest l = (front : List ℕ) × (l.fn.piece ≡ front ++ l.rest)
    × ((read : List ℕ) → length read + length l.fn.piece < 2 ^ 63 → IsReading read l.fn.lines l.fn.draft → IsReading (read ++ front) l.lines l.draft)

abbrev pub decreases-loop-rest : goal.decreases-loop-rest
decreases-loop-rest l = length l.rest
