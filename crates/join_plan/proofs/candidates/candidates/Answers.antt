use Rattle.std.proofs.Common.{◌≡◌, Some, arith, slice_get}
use Rattle.std.proofs.lemmas.Option.{slice_get-get_or}
use Rattle.join_plan.proofs.ChoiceLemmas.{candidates_more}
use Rattle.join_plan.proofs.candidates.candidates.Goals as goal

pub loop-place-preserved : goal.loop-place-preserved
loop-place-preserved g c =
    let there : slice_get c.args.atoms.now c.loop-place.place ≡ Some c.sized.result.atom = rw c.sized.ensures.atom (slice_get-get_or c.args.atoms.now c.loop-place.place _ (omega arith)) in
    let more = candidates_more (g.T.Tables.rows c.args.t.now) c.args.atoms.now c.loop-place.left.items c.loop-place.place c.sized.result c.sized.ensures.place there c.sized.ensures.sized c.loop-place.invariant.places c.loop-place.invariant.there c.loop-place.invariant.sized in
    rw c.in_ok-push.ensures.items (record { places = more.0; there = more.1; sized = more.2 })
