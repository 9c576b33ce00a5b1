use Rattle.std.proofs.Common.{arith}
use Rattle.std.proofs.lemmas.Option.{slice_get-get_or}
use Rattle.join_plan.proofs.ChoiceLemmas.{cheapest_new, cheapest_stays}
use Rattle.join_plan.proofs.offers.cheapest.Goals as goal
use Rattle.join_plan.proofs.offers.cheapest.Goals.{then-is_better, else-is_better}

pub loop-index-preserved : goal.loop-index-preserved
loop-index-preserved c =
    let there = slice_get-get_or c.args.left.now c.loop-index.index _ (omega arith) in
    elim c.if-is_better.branch [
      | then-is_better w ↦ rw w.best-is (cheapest_new c.args.left.now c.args.known.now c.loop-index.index _ c.offer_for-offer.result there c.offer_for-offer.ensures c.loop-index.best c.loop-index.invariant w.if-is_better.ensures.better)
      | else-is_better w ↦ rw w.best-is (cheapest_stays c.args.left.now c.args.known.now c.loop-index.index _ c.offer_for-offer.result there c.offer_for-offer.ensures c.loop-index.best c.loop-index.invariant w.if-is_better.ensures.not_better)
    ]
