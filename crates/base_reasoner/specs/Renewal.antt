-- Tables that are completed anew.
use Rattle.std.specs.Prelude.{◌≡◌, ℕ, List}
use Rattle.completion.specs.Completed.{IsCompletionOf}
use Rattle.completion.specs.Named.{IsNamedCompletion}
use Rattle.dl_base.specs.Numbers.{StandFor}
use Rattle.dl_base.specs.declared.row.NamedRow.{NamedRow}
use Rattle.dl_base.specs.declared.row.Row.{Row}
use Rattle.witness_book.specs.Witnesses.{SetsLive}
use Rattle.base_reasoner.specs.Reasoned.{Reasoned}

-- By the same ontology the tables are completed of these rows, by numbers and by names, and the book of witnesses goes on from the one
-- of before.
pub record IsRenewed (rows : List Row) (old new : Reasoned) : Type 0 where
  pub ontology_stays : new.ontology ≡ old.ontology
  pub tables : IsCompletionOf old.ontology rows new.tables
  pub named : (names : List (List ℕ)) (these : List NamedRow) → StandFor old.ontology names rows these → IsNamedCompletion old.ontology names these new.tables
  pub live : SetsLive old.tables.book new.tables.book.live new.tables.book
