use Rattle.std.proofs.Common.{sym, subst, length, ◌∙◌}
use Rattle.std.proofs.lemmas.Option.{slice_get-get_or}
use Rattle.join_ops.specs.Levels.{IsFromFront}
use Rattle.join_ops.proofs.LevelLemmas.{least_apart}
use Rattle.join_ops.proofs.level.offered.Goals as goal

pub returns-else-is_witness_of : goal.returns-else-is_witness_of
returns-else-is_witness_of g c =
    let twins = c.in-Twin.twins in
    let within = subst (IsFromFront (length c.args.front.now)) c.in-Twin.is c.requires in
    least_apart (g.T.Tables.rows c.args.t.now) c.args.source c.in-Twin.edge twins c.args.front.now _ c.args.after c.next_along-else-is_witness_of.result c.in-Twin.is
    (slice_get-get_or c.args.front.now twins.child _ within.2)
    (λ witness. let both = sym c.if-is_witness_of.false ∙ c.is_witness_of.ensures.1 witness in cc)
    c.next_along-else-is_witness_of.ensures
