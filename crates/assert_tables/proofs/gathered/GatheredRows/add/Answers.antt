use Rattle.assert_tables.proofs.GatheredLemmas.{gathered_more, more_gathered}
use Rattle.assert_tables.proofs.gathered.GatheredRows.add.Goals as goal

pub invariant_of-self-2 : goal.invariant_of-self-2
invariant_of-self-2 c = rw (c.in_ok-push.ensures.items, c.max-self-inside.ensures) (more_gathered _ _ _ _ c.args.row c.self.invariant c.above.ensures)

pub returns : goal.returns
returns c = rw (← c.self.view_is, c.in_ok-push.ensures.items) (gathered_more c.self.inside.settled c.self.inside.waiting.items c.args.row c.self.invariant.rising)
