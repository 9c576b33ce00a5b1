use Rattle.std.proofs.Common.{◌==◌, ℕ, ap, ◌∙◌}
use Rattle.assert_tables.proofs.GatheredLemmas.{none_waits}
use Rattle.assert_tables.proofs.gathered.GatheredRows.is_empty.Goals as goal

pub returns-else-is_empty : goal.returns-else-is_empty
returns-else-is_empty c = rw (← c.self.view_is) (none_waits c.self.inside.settled c.self.inside.waiting.items c.is_empty.result c.if-is_empty.false
    (c.is_empty.ensures ∙ ap (λ (n : ℕ). n == 0) c.self.inside.waiting.ok.0))
