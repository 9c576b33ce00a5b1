use Rattle.std.proofs.Common.{sym, ◌∙◌}
use Rattle.assert_tables.proofs.GatheredLemmas.{all_listed}
use Rattle.assert_tables.proofs.gathered.GatheredRows.into_list.Goals as goal

pub returns-then-rows-eq0 : goal.returns-then-rows-eq0
returns-then-rows-eq0 c = rw (← c.self.view_is, c.from_vec.ensures) (all_listed c.self.inside.settled c.self.inside.waiting.items c.in_order.result.items (sym c.rows.ensures.count ∙ c.if-rows-eq0.true) c.in_order.ensures.rising c.in_order.ensures.same)
