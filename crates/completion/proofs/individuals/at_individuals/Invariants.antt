use Rattle.std.proofs.Common.{◌≡◌, ◌+◌, ◌-◌, ◌≤◌, length}
use Rattle.assert_tables.specs.Rows.{individuals_of}
use Rattle.completion.proofs.MapLemmas.{Gone, KeptUpTo, PointedUpTo}
use Rattle.completion.proofs.individuals.at_individuals.Given as goal

abbrev pub invariant-loop-individual : goal.invariant-loop-individual
invariant-loop-individual g l = record {
  least : l.initial.steps ≤ l.steps;
  gone : Gone l.rows l.after l.initial.steps l.steps;
  kept : KeptUpTo l.rules l.rows l.after l.map.entries;
  pointed : PointedUpTo l.rules l.rows l.after l.initial.pointed l.pointed;
  scratch : l.scratch ≡ l.initial.scratch;
}

abbrev pub decreases-loop-individual : goal.decreases-loop-individual
decreases-loop-individual g l = l.initial.steps + length (individuals_of l.rows) - l.steps
