use Rattle.query_shape.proofs.NumberingLemmas.{IsShapeUpTo}
use Rattle.query_shape.proofs.numbering.shape.Given as goal

abbrev pub invariant-loop-atom : goal.invariant-loop-atom
invariant-loop-atom l = IsShapeUpTo l.o l.atom-items l.atom-index l.terms l.atoms
