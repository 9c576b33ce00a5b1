use Rattle.std.proofs.Common.{◌↔◌, ◌∙◌, Contains, List, subst}
use Rattle.dl_base.specs.declared.row.Row.{Row}
use Rattle.assert_tables.proofs.GatheredLemmas.{as_many}
use Rattle.assert_tables.proofs.assertions.Assertions.of_rows.Goals as goal

made : (c : goal.After-len) → (r : Row) → Contains c.in_ok-set.set r ↔ Contains c.in_order-rows.result.items r
made c = subst (λ (rows : List Row). (r : Row) → Contains c.in_ok-set.set r ↔ Contains rows r) c.as_slice.ensures.value c.in_ok-set.ensures.rows

pub invariant_of-result : goal.invariant_of-result
invariant_of-result c = record {
  rising = c.in_ok-set.ensures.rising;
  rows_are = c.len.ensures ∙ c.in_order-rows.result.ok.0 ∙ as_many _ _ c.in_order-rows.ensures.rising c.in_ok-set.ensures.rising (made c);
  individuals_are = c.in_ok-set.ensures.individuals;
}

pub returns-clause-rows : goal.returns-clause-rows
returns-clause-rows c = λ r. (
  λ there. (c.in_order-rows.ensures.same r).0 ((made c.before r).0 there),
  λ there. (made c.before r).1 ((c.in_order-rows.ensures.same r).1 there),
)
