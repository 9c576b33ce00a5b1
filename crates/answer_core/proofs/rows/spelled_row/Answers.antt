use Rattle.std.proofs.Common.{◌≡◌, ◌+◌, ◌<◌, ℕ, List, length, get_or, slice_get, Some, take, subst, sym, ◌∙◌, ap}
use Rattle.std.proofs.lemmas.Option.{slice_get-get_or}
use Rattle.answer_core.specs.Found.{SpellsKey}
use Rattle.answer_core.specs.Ranks.{names_by_rank}
use Rattle.answer_core.specs.declared.ranks.Ranked.{Ranked}
use Rattle.answer_core.proofs.ListLemmas.{mapped_read, zip_more}
use Rattle.answer_core.proofs.rows.spelled_row.Goals as goal

pub loop-rank-preserved : goal.loop-rank-preserved
loop-rank-preserved c =
    let below : get_or c.args.row.now c.loop-rank.rank-index 0 < length c.args.order.now = c.requires c.loop-rank.rank-index 0 c.loop-rank-test.true in
    subst (λ (key : List (List ℕ)). SpellsKey (names_by_rank c.args.order.now) (take (c.loop-rank.rank-index + 1) c.args.row.now) key) (sym c.in_ok-push.ensures.items)
    (zip_more (λ r a. slice_get (names_by_rank c.args.order.now) r ≡ Some a) c.args.row.now c.loop-rank.key.items c.loop-rank.rank-index _ c.in_ok-copy.field-0
    c.loop-rank.invariant (slice_get-get_or c.args.row.now c.loop-rank.rank-index 0 c.loop-rank-test.true)
    (mapped_read (λ e. e.name.now) c.args.order.now (get_or c.args.row.now c.loop-rank.rank-index 0) c.index-order-rank.result below c.index-order-rank.is
    ∙ ap (λ (e : Ranked). Some e.name.now) c.index-order-rank.is ∙ ap Some (sym c.in_ok-copy.ensures)))
