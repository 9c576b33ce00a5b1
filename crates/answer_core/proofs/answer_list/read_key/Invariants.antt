use Rattle.std.proofs.Common.{ℕ, ◌<◌, get_or}
use Rattle.answer_core.specs.Found.{HasIndividual}
use Rattle.answer_core.proofs.answer_list.read_key.Given as goal

abbrev pub invariant-loop-i : goal.invariant-loop-i
invariant-loop-i l = (k : ℕ) → k < l.i → HasIndividual l.images l.count (get_or l.places k 0) (get_or l.key k 0)
