-- What a base derives by its ontology.
use Rattle.std.specs.Prelude.{◌≡◌, ℕ, List}
use Rattle.dl_base.specs.Numbers.{StandFor}
use Rattle.dl_base.specs.Ontology.{Terminology}
use Rattle.dl_base.specs.Rows.{AreRows}
use Rattle.dl_base.specs.declared.row.NamedRow.{NamedRow}
use Rattle.dl_base.specs.declared.row.Row.{Row}
use Rattle.completion.specs.Completed.{Completion}
use Rattle.completion.specs.Named.{IsNamedCompletion}
use Rattle.horn_closure.specs.Closure.{IsScratchOf}
use Rattle.role_graph.specs.Graph.{Graph, IsGraphOf}

-- an ontology, and the tables that are completed by it
pub record Reasoned : Type 0 where
  pub ontology : Terminology
  pub tables : Completion

-- rules, scratch and graph are the ontology's
pub record IsReasoner (o rules : Terminology) (scratch : List ℕ) (graph : Graph) : Type 0 where
  pub rules_are : rules ≡ o
  pub scratch_is : IsScratchOf o scratch
  pub graph_is : IsGraphOf o graph

-- Under the names the rows by numbers stand for rows, and the tables are completed of these.
pub record IsCompletedOf (names : List (List ℕ)) (rows : List Row) (r : Reasoned) : Type 0 where
  pub these : List NamedRow
  pub rising : AreRows these
  pub stand : StandFor r.ontology names rows these
  pub completed : IsNamedCompletion r.ontology names these r.tables
