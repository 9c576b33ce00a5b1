use Rattle.std.proofs.Common.{arith}
use Rattle.assert_tables.proofs.CountLemmas.{individual_named, named_individual}
use Rattle.assert_tables.proofs.assertions.newcomer.Goals as goal

pub returns-in-Some : goal.returns-in-Some
returns-in-Some c = record {
  few = omega arith;
  named = λ e. named_individual c.args.set.now c.in-Some.field-0 c.args.individual c.in-Some.ensures.0 c.in-Some.ensures.1;
  new = λ e. absurd cc;
}

pub returns-in-None : goal.returns-in-None
returns-in-None c = record {
  few = omega arith;
  named = λ e. absurd cc;
  new = λ e there.
      let named = individual_named c.args.set.now c.args.individual there in
      c.in-None.ensures named.0 named.1 named.2 tt;
}
