use Rattle.std.proofs.Common.{◌≡◌, ◌<◌, ◌^◌, Contains, arith, length}
use Rattle.assert_tables.proofs.CountLemmas.{BringsMore, brings_more, gains_none}
use Rattle.assert_tables.proofs.assertions.Assertions.add.Goals as goal

more : (c : goal.Then-added) → BringsMore c.self.inside.set c.put.new.self c.newcomers-newcomers.result
more c = brings_more c.args.row c.self.inside.set c.put.new.self c.newcomers-newcomers.result c.self.invariant.rising c.in_ok-added.ensures.ok
    (rw c.if-added.true at c.in_ok-added.ensures.added) c.newcomers-newcomers.ensures

few : (c : goal.Then-added) → length c.put.new.self < 2 ^ 63
few c = rw c.if-added.true at c.in_ok-added.ensures.few

pub overflow_add-self : goal.overflow_add-self
overflow_add-self c = let m = more c in let f = few c in omega (arith, m.rows, f, c.self.invariant.rows_are)

pub overflow_add-self-then-added : goal.overflow_add-self-then-added
overflow_add-self-then-added c = let m = more c.before in let f = few c.before in omega (arith, m.individuals, m.few, f, c.self.invariant.individuals_are)

pub invariant_of-self-then-added : goal.invariant_of-self-then-added
invariant_of-self-then-added c =
    let m = more c.before.before in
    record {
      rising = c.in_ok-added.ensures.ok.rising;
      rows_are = omega (arith, m.rows, c.self.invariant.rows_are);
      individuals_are = omega (arith, m.individuals, c.self.invariant.individuals_are);
    }

pub invariant_of-self-else-added : goal.invariant_of-self-else-added
invariant_of-self-else-added c =
    let there : Contains c.self.inside.set c.args.row = rw c.if-added.false at c.in_ok-added.ensures.added in
    let same : c.put.new.self ≡ c.self.inside.set = gains_none c.args.row c.self.inside.set c.put.new.self c.self.invariant.rising c.in_ok-added.ensures.ok there in
    rw same c.self.invariant
