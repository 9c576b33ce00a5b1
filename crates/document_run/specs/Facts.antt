-- What is kept of the facts of a document.
use Rattle.std.specs.Prelude.{ℕ, ◌≤◌, ◌↔◌, List, length, Contains}
use Rattle.dl_base.specs.Numbers.{StandFor}
use Rattle.dl_base.specs.Ontology.{Terminology}
use Rattle.dl_base.specs.Rows.{IsIndividual}
use Rattle.dl_base.specs.declared.row.NamedRow.{NamedRow}
use Rattle.document_run.specs.declared.facts.Facts.{Facts}

-- The rows by numbers stand for those that are asserted, and the individuals are numbered, within the limits.
pub record KeepsFacts (o : Terminology) (asserted : List NamedRow) (facts : Facts) : Type 0 where
  pub stand : StandFor o facts.individuals facts.rows asserted
  pub individual : (a : List ℕ) → Contains facts.individuals a ↔ IsIndividual asserted a
  pub few_individuals : length facts.individuals ≤ 65536
  pub few_rows : length facts.rows ≤ 1000000
