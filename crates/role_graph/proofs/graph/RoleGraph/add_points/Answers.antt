use Rattle.std.proofs.Common.{◌≡◌, ◌⊎◌, ◌↔◌, ◌≤◌, true, length, ◌∙◌, ap, subst, arith}
use Rattle.dl_base.specs.Completion.{RolePoints}
use Rattle.dl_base.specs.Derivation.{inverse}
use Rattle.dl_base.specs.Sets.{HasRole}
use Rattle.dl_base.specs.declared.concept.Role.{Role}
use Rattle.role_graph.proofs.PointsLemmas.{adds_none, adds_both, adds_all}
use Rattle.role_graph.proofs.graph.RoleGraph.add_points.Goals as goal

pub loop-name-init : goal.loop-name-init
loop-name-init c = λ o is. adds_none o c.args.s c.args.live.now

pub loop-name-preserved : goal.loop-name-preserved
loop-name-preserved c = λ o is.
    let s = c.args.s in
    let half = c.add_point.new.live in
    let new = c.add_point-in-loop-name.new.live in
    let inverted : c.inverted.result ≡ record { name = c.loop-name.name; inverse = true } = c.inverted.ensures ∙ ap inverse c.named-direct.ensures in
    adds_both o s c.loop-name.name c.args.live.now c.loop-name.live half new
    (subst (λ (r : Role). (t : Role) → HasRole half t ↔ (((t ≡ r) × RolePoints o s r) ⊎ HasRole c.loop-name.live t)) c.named-direct.ensures (c.add_point.ensures o is))
    (subst (λ (r : Role). (t : Role) → HasRole new t ↔ (((t ≡ r) × RolePoints o s r) ⊎ HasRole half t)) inverted (c.add_point-in-loop-name.ensures o is))
    (c.loop-name.invariant o is)

pub returns : goal.returns
returns c = λ o is.
    let all : length c.args.self.now.closed ≤ c.loop-name.name = (let names = c.names-name-end.ensures.names in omega arith) in
    adds_all o c.args.self.now c.args.s c.loop-name.name c.args.live.now c.loop-name.live is all (c.loop-name.invariant o is)
