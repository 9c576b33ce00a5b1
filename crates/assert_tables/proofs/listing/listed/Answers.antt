use Rattle.std.proofs.Common.{None, subst, sym}
use Rattle.assert_tables.proofs.LeftLemmas.{fewer_individuals}
use Rattle.assert_tables.proofs.ListedRows.{AreListedUpTo, listed_all, listed_more, listed_none}
use Rattle.assert_tables.proofs.listing.listed.Goals as goal

pub loop-individual-init : goal.loop-individual-init
loop-individual-init c = subst (AreListedUpTo c.args.rows.now None) (sym c.new-list.ensures) (listed_none c.args.rows.now)

pub loop-individual-smaller : goal.loop-individual-smaller
loop-individual-smaller c = fewer_individuals c.args.rows.now c.loop-individual.after c.in-Some.individual c.in-Some.ensures

pub loop-individual-preserved : goal.loop-individual-preserved
loop-individual-preserved c =
    listed_more c.args.rows.now c.loop-individual.after c.in-Some.individual c.loop-individual.list c.list_from.new.list c.in-Some.ensures c.in_ok-list_from.ensures c.loop-individual.invariant

pub returns : goal.returns
returns c = listed_all c.args.rows.now c.loop-individual.after c.loop-individual.list c.in_default.ensures c.loop-individual.invariant
