use Rattle.std.proofs.Common.{◌≡◌, arith}
use Rattle.assert_tables.proofs.CountLemmas.{BringsMore, brings_less, loses_none}
use Rattle.assert_tables.proofs.assertions.Assertions.del.Goals as goal

less : (c : goal.After-newcomers) → BringsMore c.take-removed.new.self c.self.inside.set c.newcomers.result
less c = brings_less c.args.row c.self.inside.set c.take-removed.new.self c.newcomers.result c.self.invariant.rising c.take-removed.ensures.rows c.if-removed.ensures.removed c.newcomers.ensures

pub overflow_sub-self-then-removed : goal.overflow_sub-self-then-removed
overflow_sub-self-then-removed c = let l = less c in omega (arith, l.individuals, c.self.invariant.individuals_are)

pub invariant_of-self : goal.invariant_of-self
invariant_of-self c =
    let l = less c.before in
    record {
      rising = c.take-removed.ensures.rows.rising;
      rows_are = omega (arith, l.rows, c.self.invariant.rows_are);
      individuals_are = omega (arith, l.individuals, c.self.invariant.individuals_are);
    }

pub invariant_of-self-else-removed : goal.invariant_of-self-else-removed
invariant_of-self-else-removed c =
    let same : c.take-removed.new.self ≡ c.self.inside.set = loses_none c.args.row c.self.inside.set c.take-removed.new.self c.self.invariant.rising c.take-removed.ensures.rows c.if-removed.ensures.removed in
    rw same c.self.invariant
