use Rattle.std.proofs.Common.{◌≡◌, length, sym, ◌∙◌, ap, subst}
use Rattle.role_graph.specs.Behind.{AreClosures}
use Rattle.role_graph.specs.Graph.{Graph}
use Rattle.role_graph.proofs.graph.RoleGraph.closed_of.Goals as goal

pub returns : goal.returns
returns c = λ o is.
    let same : c.args.self.now.closed ≡ c.as_slice.result.now = ap (λ (g : Graph). g.closed) (sym c.self.view_is) ∙ sym c.as_slice.ensures.value in
    c.closed_behind_of.ensures o.inclusions (length o.roles) (subst (AreClosures o.inclusions (length o.roles)) same is.closures)
