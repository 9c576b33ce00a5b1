-- What a document has to be for its answers.
use Rattle.std.specs.Prelude.{ℕ, ◌<◌, List, All, length}
use Rattle.completion.specs.Numbered.{IsRowNamed, IsRowOf}
use Rattle.dl_base.specs.Ontology.{Terminology}
use Rattle.dl_base.specs.Query.{Question}
use Rattle.dl_base.specs.declared.row.Row.{Row}
use Rattle.query_shape.specs.ShapeFault.{IsKnown}
use Rattle.document_run.specs.declared.document.Document.{Document}

-- the rows are of concepts and roles of the ontology, and of individuals that have a name; and the ontology has the query's names
pub record IsSoundDocument (document : Document) : Type 0 where
  pub within : All (IsRowOf document.ontology) document.facts.rows
  pub numbered : (n : ℕ) → IsRowNamed document.facts.rows n → n < length document.facts.individuals
  pub known : All (IsKnown document.ontology) document.asked.atoms

-- the document of this ontology, these individuals, their rows and this query
abbrev pub document_of : Terminology → List (List ℕ) → List Row → Question → Document
document_of o names rows q = record { ontology = o; facts = record { individuals = names; rows = rows }; asked = q }
