use Rattle.std.proofs.Common.{◌≡◌, ◌+◌, ℕ, List, Option, Some, refl, sym, ◌∙◌, subst, arith}
use Rattle.assert_tables.specs.Rows.{IsNextIndividual}
use Rattle.dl_base.specs.declared.row.Row.{Row}
use Rattle.completion.proofs.MapLemmas.{Gone, all_kept, all_pointed, gone_few, gone_more, gone_none, kept_more, kept_none, pointed_more, pointed_none}
use Rattle.completion.proofs.individuals.at_individuals.Goals as goal

pub loop-individual-init : goal.loop-individual-init
loop-individual-init g c = record {
  least = omega arith;
  gone = gone_none c.args.rows.now c.args.steps.now;
  kept = kept_none c.args.rules.now c.args.rows.now c.new-map.result.entries c.new-map.ensures.empty;
  pointed = pointed_none c.args.rules.now c.args.rows.now c.args.pointed.now;
  scratch = refl;
}

-- one more was gone through, with one step
more : (rows : List Row) (after : Option ℕ) (i start steps new : ℕ) → IsNextIndividual rows after (Some i) → Gone rows after start steps → new ≡ steps + 1 → Gone rows (Some i) start new
more rows after i start steps new next gone cost = subst (λ (s : ℕ). Gone rows (Some i) start s) (sym cost) (gone_more rows after i start steps next gone)

pub loop-individual-smaller : goal.loop-individual-smaller
loop-individual-smaller g c =
    let most = gone_few c.args.rows.now (Some c.in-Some.individual) c.args.steps.now c.at_individual-at.new.steps
    (more c.args.rows.now c.loop-individual.after c.in-Some.individual c.args.steps.now c.loop-individual.steps c.at_individual-at.new.steps c.in-Some.ensures c.loop-individual.invariant.gone c.at_individual-at.ensures.cost) in
    let cost = c.at_individual-at.ensures.cost in
    omega (arith, most, cost)

pub loop-individual-preserved : goal.loop-individual-preserved
loop-individual-preserved g c = record {
  least = (let cost = c.at_individual-at.ensures.cost in let least = c.loop-individual.invariant.least in omega (arith, cost, least));
  gone = more c.args.rows.now c.loop-individual.after c.in-Some.individual c.args.steps.now c.loop-individual.steps c.at_individual-at.new.steps c.in-Some.ensures c.loop-individual.invariant.gone c.at_individual-at.ensures.cost;
  kept = kept_more c.loop-individual.map.entries c.insert.new.self.entries c.in-Some.individual c.at_individual-at.result c.in_ok-insert.ensures.updates.0
      c.args.rules.now c.args.rows.now c.loop-individual.after c.in-Some.ensures c.at_individual-at.ensures.at c.loop-individual.invariant.kept;
  pointed = pointed_more c.args.rules.now c.args.rows.now c.loop-individual.after c.in-Some.individual c.args.pointed.now c.loop-individual.pointed c.at_individual-at.new.pointed c.in-Some.ensures
      c.at_individual-at.ensures.pointed c.loop-individual.invariant.pointed;
  scratch = c.at_individual-at.ensures.scratch ∙ c.loop-individual.invariant.scratch;
}

pub returns-in_err-insert-clause-most : goal.returns-in_err-insert-clause-most
returns-in_err-insert-clause-most g c =
    gone_few c.args.rows.now (Some c.in-Some.individual) c.args.steps.now c.at_individual-at.new.steps
    (more c.args.rows.now c.loop-individual.after c.in-Some.individual c.args.steps.now c.loop-individual.steps c.at_individual-at.new.steps c.in-Some.ensures c.loop-individual.invariant.gone c.at_individual-at.ensures.cost)

pub returns-clause-each : goal.returns-clause-each
returns-clause-each g c = all_kept c.args.rules.now c.args.rows.now c.loop-individual.after c.loop-individual.map.entries c.in_default.ensures c.loop-individual.invariant.kept

pub returns-clause-pointed : goal.returns-clause-pointed
returns-clause-pointed g c =
    all_pointed c.args.rules.now c.args.rows.now c.loop-individual.after c.args.pointed.now c.loop-individual.pointed c.in_default.ensures c.loop-individual.invariant.pointed

pub returns-clause-most : goal.returns-clause-most
returns-clause-most g c = gone_few c.args.rows.now c.loop-individual.after c.args.steps.now c.loop-individual.steps c.loop-individual.invariant.gone
