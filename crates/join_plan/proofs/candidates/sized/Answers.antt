use Rattle.std.proofs.Common.{subst}
use Rattle.dl_base.specs.Tables.{AreCounted, IsIn}
use Rattle.dl_base.specs.declared.concept.Role.{Role}
use Rattle.dl_base.specs.declared.concept.Basic.TheVariants as basic
use Rattle.join_plan.proofs.candidates.sized.Goals as goal

pub returns-in-Role-clause-sized : goal.returns-in-Role-clause-sized
returns-in-Role-clause-sized g c = (
  c.count-sources.ensures,
  subst (λ (r : Role). AreCounted (IsIn (g.T.Tables.rows c.args.t.now) (basic.Exists r)) c.count.result) c.inverted.ensures c.count.ensures,
)
