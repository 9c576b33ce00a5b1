use Rattle.std.proofs.Common.{◌≤◌, length, arith}
use Rattle.clash_report.proofs.ReportLemmas.{above_last, least_at_none, least_skips, not_below_last, past_last}
use Rattle.clash_report.proofs.report.least_found.Goals as goal

pub loop-n-init : goal.loop-n-init
loop-n-init c = record { inside = tt; least = λ rows are. least_at_none c.args.o.now rows c.args.individuals.now }

pub with_individual-requires : goal.with_individual-requires
with_individual-requires c = record { graph = c.requires.graph; numbered = c.requires.numbered c.in-Some.n c.in-Some.ensures.0; found = c.loop-n.invariant.inside }

pub loop-n-smaller : goal.loop-n-smaller
loop-n-smaller c = omega (arith, above_last c.loop-n.last c.in-Some.n c.in-Some.ensures.1, c.requires.numbered c.in-Some.n c.in-Some.ensures.0)

pub loop-n-preserved : goal.loop-n-preserved
loop-n-preserved c = record {
  inside = c.in_ok-found.ensures.inside;
  least = λ rows are.
      c.in_ok-found.ensures.least rows are c.in-Some.ensures.0
      (least_skips c.args.o.now rows c.args.individuals.now (past_last c.loop-n.last) c.in-Some.n c.loop-n.found
      (λ k a past below at individual. let least : c.in-Some.n ≤ k = c.in-Some.ensures.2 k ((are.individuals k).1 (a, at, individual)) (not_below_last c.loop-n.last k past) in omega arith)
      (c.loop-n.invariant.least rows are));
}

pub returns-clause-least : goal.returns-clause-least
returns-clause-least c = λ rows are.
    least_skips c.args.o.now rows c.args.individuals.now (past_last c.loop-n.last) (length c.args.individuals.now) c.loop-n.found
    (λ k a past below at individual. c.in_default.ensures k ((are.individuals k).1 (a, at, individual)) (not_below_last c.loop-n.last k past))
    (c.loop-n.invariant.least rows are)
