-- The order of mentions.
use Rattle.std.proofs.Common.{◌≡◌, sym, ◌∙◌}
use Rattle.std.specs.declared.cmp.Ordering.TheVariants.{Equal}
use Rattle.std.specs.Ordering.{nat_cmp, ordering_then}
use Rattle.dl_base.proofs.RisingLemmas.{nat_same}
use Rattle.dl_base.proofs.RowLemmas.{keys_by_numbers, numbered_same, then_first, then_second}
use Rattle.assert_tables.specs.Mentions.{mention_cmp}
use Rattle.assert_tables.specs.contracts.row_set.MentionOrd.TheImpl.{cmp-value as mention_order}
use Rattle.assert_tables.specs.declared.row_set.Mention.{Mention}

-- sets keep mentions by their individuals, and of one individual by their rows
pub by_row : (x y : Mention) → mention_order.it x y ≡ mention_cmp x y
by_row x y = λ j. ordering_then (nat_cmp x.individual y.individual) (keys_by_numbers x.row y.row j)

mention_same : (m n : Mention) → mention_cmp m n ≡ Equal → m ≡ n
mention_same m n e =
    let f = nat_same m.individual n.individual (then_first _ _ e) in
    let g = numbered_same m.row n.row (then_second (nat_cmp m.individual n.individual) _ e) in
    λ j. record { individual = f j; row = g j }

-- mentions that a set takes for equal are equal
pub mention_exact : (m n : Mention) → mention_order.it m n ≡ Equal → m ≡ n
mention_exact m n e = mention_same m n (sym (by_row m n) ∙ e)
