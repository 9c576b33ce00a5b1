use Rattle.std.proofs.Common.{◌≡◌, ◌++◌, ℕ, List, length}
use Rattle.script_tally.specs.Gathering.{GathersBytes}
use Rattle.script_tally.proofs.gathering.requests_of.Given as goal

abbrev pub invariant-loop-rest : goal.invariant-loop-rest
invariant-loop-rest l = (front : List ℕ) × (l.script ≡ front ++ l.rest) × GathersBytes front l.lines l.requests l.block

abbrev pub decreases-loop-rest : goal.decreases-loop-rest
decreases-loop-rest l = length l.rest
