use Rattle.std.proofs.Common.{◌≡◌, sym, ◌∙◌, ap, true≢false}
use Rattle.role_graph.specs.Graph.{Graph}
use Rattle.role_graph.proofs.FirstLemmas.{no_clash, kept_first, first_by_ref}
use Rattle.role_graph.proofs.graph.RoleGraph.clash_from.Goals as goal

pub returns-then-not-has_role : goal.returns-then-not-has_role
returns-then-not-has_role c = λ o is. no_clash o c.args.self.now is c.args.r (λ node. true≢false (sym (c.has_role.ensures.1 node) ∙ c.if-not-has_role.true))

pub returns : goal.returns
returns c = λ o is.
    first_by_ref o c.args.r c.as_ref.result c.index.result.now c.as_ref.ensures.value
    (kept_first o c.args.self.now is c.self.inside.clashes.items c.args.r c.place_of.result c.index.result.now (ap (λ (g : Graph). g.clashes) c.self.view_is)
    (c.has_role.ensures.0 c.if-not-has_role.false) c.place_of.ensures c.index.ensures)
