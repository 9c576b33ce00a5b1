use Rattle.std.proofs.Common.{refl, arith}
use Rattle.assert_tables.proofs.GatheredLemmas.{gathered_most, gathered_rise}
use Rattle.assert_tables.proofs.gathered.GatheredRows.has_at_most.Goals as goal

pub returns-then-are_at_most-clause-few : goal.returns-then-are_at_most-clause-few
returns-then-are_at_most-clause-few c = rw (← c.self.view_is) (
  λ t.
      let most = gathered_most c.self.inside.settled c.self.inside.waiting.items in
      let fits = c.are_at_most.ensures.0 c.if-are_at_most.true in
      let rows = c.rows.ensures.count in
      let len = c.len.ensures in
      let all = c.self.inside.waiting.ok.0 in
      omega (arith, most, fits, rows, len, all),
  λ le. refl,
)

pub returns-then-are_at_most-clause-rising : goal.returns-then-are_at_most-clause-rising
returns-then-are_at_most-clause-rising c = rw (← c.self.view_is) (gathered_rise c.self.inside.settled c.self.inside.waiting.items c.self.invariant.rising)

pub invariant_of-self : goal.invariant_of-self
invariant_of-self c = c.settle.ensures.kept c.self.inside.above c.self.invariant

pub invariant_of-self-2 : goal.invariant_of-self-2
invariant_of-self-2 c = c.settle.ensures.kept c.self.inside.above c.self.invariant
