use Rattle.std.proofs.Common.{◌≡◌, ◌<◌, true, ◌∙◌, ap, subst, arith}
use Rattle.dl_base.specs.Derivation.{inverse}
use Rattle.dl_base.specs.Sets.{HasRole}
use Rattle.dl_base.specs.declared.concept.Role.{Role}
use Rattle.role_graph.proofs.ReachedLemmas.{done_none, done_both}
use Rattle.role_graph.proofs.graph.RoleGraph.waiting.Goals as goal

pub loop-name-init : goal.loop-name-init
loop-name-init c = done_none c.args.live.now c.args.done.now

pub loop-name-preserved : goal.loop-name-preserved
loop-name-preserved c =
    let live = c.args.live.now in
    let done = c.args.done.now in
    let inverted : c.inverted.result ≡ record { name = c.loop-name.name; inverse = true } = c.inverted.ensures ∙ ap inverse c.named-direct.ensures in
    done_both live done c.loop-name.name
    (subst (λ (r : Role). HasRole live r → HasRole done r) c.named-direct.ensures c.if-waits.ensures)
    (subst (λ (r : Role). HasRole live r → HasRole done r) inverted c.if-waits-2.ensures)
    c.loop-name.invariant

pub returns : goal.returns
returns c = λ r node has.
    let below : r.name < c.loop-name.name = (let names = c.names-name-end.ensures.names in omega arith) in
    c.loop-name.invariant.each r below has
