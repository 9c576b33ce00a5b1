use Rattle.std.proofs.Common.{sym, ◌∙◌, true≢false}
use Rattle.role_graph.proofs.PointsLemmas.{no_point, has_point}
use Rattle.role_graph.proofs.graph.RoleGraph.spawns.Goals as goal
use Rattle.role_graph.proofs.graph.RoleGraph.spawns.Goals.{then-has_role, else-has_role}

pub returns-else-has : goal.returns-else-has
returns-else-has c = λ o is. (
  λ true. absurd (true≢false (sym true ∙ c.if-has.false)),
  λ points. elim c.if-has_role.branch [
    | then-has_role w ↦
        absurd (true≢false (sym (w.has.ensures.1 (has_point o c.args.s c.args.r w.closed_of.result.now (w.closed_of.ensures o is) points)) ∙ sym w.value-is ∙ c.if-has.false))
    | else-has_role w ↦
        absurd (no_point o c.args.self.now c.args.s c.args.r is (λ node. true≢false (sym (c.has_role.ensures.1 node) ∙ w.if-has_role.false)) points)
  ],
)
