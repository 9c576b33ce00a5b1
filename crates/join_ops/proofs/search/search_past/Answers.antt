use Rattle.join_ops.specs.Joins.{Past}
use Rattle.join_ops.proofs.SearchSteps.{past_step, least_shared}
use Rattle.join_ops.proofs.search.search_past.Goals as goal

pub returns : goal.returns
returns g c = λ found.
    let shared = least_shared c.args.terms _ c.min-shared.result c.min-shared.ensures c.if-shared-eq0.false in
    c.search.ensures (Past c.args.terms c.args.elements.now)
    (past_step (g.T.Tables.rows c.args.t.now) c.args.conditions.now c.args.levels.now c.args.elements.now _ c.args.terms _ c.requires.search found shared.0 shared.1)
