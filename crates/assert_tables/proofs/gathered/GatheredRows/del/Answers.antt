use Rattle.assert_tables.proofs.GatheredLemmas.{lost_gathered}
use Rattle.assert_tables.proofs.gathered.GatheredRows.del.Goals as goal

pub invariant_of-self : goal.invariant_of-self
invariant_of-self c = c.settle.ensures.kept c.self.inside.above c.self.invariant

pub invariant_of-self-2 : goal.invariant_of-self-2
invariant_of-self-2 c = lost_gathered _ _ _ _ c.args.row (c.settle.ensures.kept c.self.inside.above c.self.invariant) c.del.ensures.rows
