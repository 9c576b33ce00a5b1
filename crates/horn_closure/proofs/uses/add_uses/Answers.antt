use Rattle.std.proofs.Common.{◌≡◌, ◌<◌, ◌∷◌, ◌++◌, [], length, arith, ap, ◌∙◌}
use Rattle.std.proofs.lemmas.List.{get_or_default}
use Rattle.horn_closure.proofs.UsesLemmas.{uses_pushed}
use Rattle.horn_closure.proofs.uses.add_uses.Goals as goal

pub loop-b-preserved : goal.loop-b-preserved
loop-b-preserved c = λ p below.
    let many : length c.loop-b.uses ≡ length c.args.uses.now = c.loop-b.auto.uses in
    let inside : c.place.result < length c.loop-b.uses = omega arith in
    uses_pushed c.args.uses.now c.loop-b.uses c.push.new.self c.args.body.now c.place.result p c.args.i c.loop-b.b-index _ c.loop-b-test.true c.place.ensures.place inside
    (c.in_ok-push.ensures.ok ∙ ap (λ xs. xs ++ c.args.i ∷ []) (get_or_default c.loop-b.uses c.place.result _ [] inside)) (c.loop-b.invariant p below)
