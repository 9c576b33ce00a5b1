use Rattle.std.proofs.Common.{◌+◌, ◌<◌, ℕ, List, Vec, Global, All, length, take, subst, sym}
use Rattle.std.specs.List.{AllZip}
use Rattle.answer_core.specs.Found.{SpellsKey}
use Rattle.answer_core.specs.Ranks.{names_by_rank, items_of}
use Rattle.answer_core.proofs.ListLemmas.{all_row, mapped_read, zip_more}
use Rattle.answer_core.proofs.rows.spelled_rows.Goals as goal

pub spelled_row-requires : goal.spelled_row-requires
spelled_row-requires c =
    rw c.as_slice.ensures.value (all_row (All (λ r. r < length c.args.order.now)) c.args.rows.now c.loop-row.row-index c.row-item.result c.requires c.loop-row-test.true c.row-item.is)

pub loop-row-preserved : goal.loop-row-preserved
loop-row-preserved c =
    subst (λ (keys : List (List (List ℕ))). AllZip (SpellsKey (names_by_rank c.args.order.now)) (take (c.loop-row.row-index + 1) (items_of c.args.rows.now)) keys) (sym c.in_ok-push.ensures.ok)
    (zip_more (SpellsKey (names_by_rank c.args.order.now)) (items_of c.args.rows.now) c.loop-row.keys c.loop-row.row-index c.row-item.result.items c.in_ok-spelled_row.field-0
    c.loop-row.invariant (mapped_read (λ (r : Vec ℕ Global). r.items) c.args.rows.now c.loop-row.row-index c.row-item.result c.loop-row-test.true c.row-item.is)
    (rw c.as_slice.ensures.value at c.in_ok-spelled_row.ensures))
