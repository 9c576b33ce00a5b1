-- What certain answers have to do with the keys of completed tables.
use Rattle.std.specs.Prelude.{◌↔◌, ℕ, List, All}
use Rattle.dl_base.specs.Ontology.{Terminology}
use Rattle.dl_base.specs.Query.{Question, IsQuery}
use Rattle.dl_base.specs.Rows.{IsIndividual}
use Rattle.dl_base.specs.Answers.{IsCertain}
use Rattle.dl_base.specs.Tables.{TableRow}
use Rattle.dl_base.specs.Completion.{AreCompleted}
use Rattle.dl_base.specs.declared.concept.Role.{Role}
use Rattle.dl_base.specs.declared.row.NamedRow.{NamedRow}
use Rattle.answer_core.specs.Keys.{IsKeyOf}

-- the certain keys over the individuals are those of the matches in the completed table that lift
abbrev pub KeysAreCertain : Type 0
KeysAreCertain = (o : Terminology) (rows : List NamedRow) (names : List (List ℕ)) (generation : Role → ℕ) (table : List TableRow) (q : Question) (key : List (List ℕ))
    → IsQuery q → AreCompleted o rows names generation table
    → (All (IsIndividual rows) key × IsCertain o rows q key) ↔ IsKeyOf o rows names generation table q key
