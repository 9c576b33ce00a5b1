use Rattle.std.proofs.Common.{refl, arith}
use Rattle.assert_tables.proofs.GatheredLemmas.{few_named, gathered_below, gathered_rise}
use Rattle.assert_tables.proofs.gathered.GatheredRows.name_at_most.Goals as goal

pub returns-then-self-individuals-clause-few : goal.returns-then-self-individuals-clause-few
returns-then-self-individuals-clause-few c = rw (← c.self.view_is) (
  λ t.
      let few = few_named c.self.inside.above _ (gathered_below _ _ _ c.self.invariant) in
      let le = c.if-self-individuals.true in
      omega (arith, few, le),
  λ le. refl,
)

pub returns-then-self-individuals-clause-rising : goal.returns-then-self-individuals-clause-rising
returns-then-self-individuals-clause-rising c = rw (← c.self.view_is) (gathered_rise c.self.inside.settled c.self.inside.waiting.items c.self.invariant.rising)

pub invariant_of-self : goal.invariant_of-self
invariant_of-self c = c.settle.ensures.kept c.self.inside.above c.self.invariant

pub invariant_of-self-2 : goal.invariant_of-self-2
invariant_of-self-2 c = c.settle.ensures.kept c.self.inside.above c.self.invariant

pub returns-clause-rising : goal.returns-clause-rising
returns-clause-rising c = gathered_rise c.settle.new.settled c.settle.new.waiting.items (c.settle.ensures.kept c.self.inside.above c.self.invariant).rising
