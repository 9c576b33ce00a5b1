use Rattle.std.proofs.Common.{None, subst, sym}
use Rattle.assert_tables.proofs.LeftLemmas.{fewer_individuals}
use Rattle.completion.proofs.AssertedLemmas.{TakenUpTo, taken_all, taken_more, taken_none}
use Rattle.completion.proofs.asserted.role_rows.Goals as goal

pub loop-individual-init : goal.loop-individual-init
loop-individual-init c = subst (TakenUpTo c.args.rows.now None) (sym c.new-edges.ensures.items) (taken_none c.args.rows.now)

pub loop-individual-smaller : goal.loop-individual-smaller
loop-individual-smaller c = fewer_individuals c.args.rows.now c.loop-individual.after c.in-Some.individual c.in-Some.ensures

pub loop-individual-preserved : goal.loop-individual-preserved
loop-individual-preserved c =
    taken_more c.args.rows.now c.loop-individual.after c.in-Some.individual c.loop-individual.edges.items c.add_from.new.edges.items c.in-Some.ensures c.in_ok-add_from.ensures c.loop-individual.invariant

pub returns : goal.returns
returns c = taken_all c.args.rows.now c.loop-individual.after c.loop-individual.edges.items c.in_default.ensures c.loop-individual.invariant
