use Rattle.witness_book.proofs.RisingLemmas.{RisenBelow}
use Rattle.witness_book.proofs.generations.raise.Given as goal

abbrev pub invariant-loop-name : goal.invariant-loop-name
invariant-loop-name l = RisenBelow l.before l.now l.name l.initial.generations l.generations
