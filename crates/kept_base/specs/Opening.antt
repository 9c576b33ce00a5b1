-- What a base that is loaded is.
use Rattle.std.specs.Prelude.{◌≡◌, ℕ, List, All, Option, Some, None}
use Rattle.completion.specs.Completed.{IsCompletionOf, IsFirstBook}
use Rattle.completion.specs.Named.{IsNamedCompletion}
use Rattle.completion.specs.Numbered.{IsRowOf}
use Rattle.dl_base.specs.Numbers.{StandFor}
use Rattle.dl_base.specs.Ontology.{Terminology}
use Rattle.dl_base.specs.declared.row.NamedRow.{NamedRow}
use Rattle.dl_base.specs.declared.row.Row.{Row}
use Rattle.base_store.specs.History.{History, transaction_count, used}
use Rattle.base_store.specs.Loaded.{IsLoadedOf}
use Rattle.base_store.specs.Store.{StoreState}
use Rattle.base_store.specs.declared.load.Loaded.{Loaded}
use Rattle.kept_base.specs.Base.{BaseState, StandsForState}
use Rattle.base_reasoner.specs.Reasoned.{Reasoned}
use Rattle.base_engine.specs.State.{IsInitial, MachineState}

-- the rows are of concepts and roles of the ontology, where there is one
abbrev pub AreRowsWithin : Option Terminology → List Row → Type 0
AreRowsWithin found rows = (o : Terminology) → found ≡ Some o → All (IsRowOf o) rows

-- the tables are completed of the rows, by numbers and by names
pub record IsReasonerOf (o : Terminology) (rows : List Row) (x : Reasoned) : Type 0 where
  pub ontology_is : x.ontology ≡ o
  pub tables : IsCompletionOf o rows x.tables
  pub first : IsFirstBook o rows x.tables.book
  pub named : (names : List (List ℕ)) (these : List NamedRow) → StandFor o names rows these → IsNamedCompletion o names these x.tables

-- the same where there is an ontology
abbrev pub IsReasonedOf : Option Terminology → List Row → Option Reasoned → Type 0
IsReasonedOf found rows None = found ≡ None
IsReasonedOf found rows (Some x) = (o : Terminology) × (found ≡ Some o) × IsReasonerOf o rows x

-- It stands for the state that the machine begins with over the history which was loaded.
abbrev pub StandsFromLoad : StoreState → Loaded → BaseState → Type 0
StandsFromLoad store l b = (h : History) → IsLoadedOf h l → store.used ≡ used h → store.transactions ≡ transaction_count h → (s : MachineState) × IsInitial h s × StandsForState b s
