use Rattle.std.proofs.Common.{refl}
use Rattle.std.proofs.lemmas.Fn.{says_at}
use Rattle.std.proofs.lemmas.List.Sorted.{IsPartitionPoint-from_clause}
use Rattle.completion.proofs.search.point_near.Goals as goal

pub returns-clause-point : goal.returns-clause-point
returns-clause-point g c =
    λ p tells parts. IsPartitionPoint-from_clause p _ _ c.partition_point.ensures.partitioned parts
    (λ a r q called. (tells _ _ (says_at g.F.Fn ((g.met.F.FnMut.1.post_iff _ a r).1 (q, called)) refl), g.met.F.Fn.1.step_stays _ a r q called))
