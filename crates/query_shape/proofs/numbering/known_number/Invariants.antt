use Rattle.std.proofs.Common.{◌≡◌, ℕ, ◌<◌, get_or}
use Rattle.dl_base.specs.declared.query.Term.{Term}
use Rattle.query_shape.proofs.numbering.known_number.Given as goal

abbrev pub invariant-loop-number : goal.invariant-loop-number
invariant-loop-number l = (k : ℕ) (d : Term) → k < l.number → get_or l.terms k d ≡ l.term → ⊥
