use Rattle.std.proofs.Common.{take}
use Rattle.std.specs.Prelude.{flat_map}
use Rattle.dl_base.specs.Query.{terms_of}
use Rattle.cq_reader.specs.QueryLimits.{AreDistinctOf}
use Rattle.cq_reader.proofs.limits.distinct_terms.Given as goal

abbrev pub invariant-loop-atom : goal.invariant-loop-atom
invariant-loop-atom l = AreDistinctOf (flat_map terms_of (take l.atom-index l.atoms)) l.found
