-- What contracts see of a base, and the states that it stands for.
use Rattle.std.specs.Prelude.{◌≡◌, ◌≤◌, ◌+◌, ℕ, List, [], length, All, Option, Some, None}
use Rattle.dl_base.specs.Completion.{AreCompleted}
use Rattle.dl_base.specs.Numbers.{IsNamedBy, StandFor}
use Rattle.dl_base.specs.Ontology.{Terminology}
use Rattle.dl_base.specs.Query.{Question}
use Rattle.dl_base.specs.Tables.{TableRow}
use Rattle.dl_base.specs.declared.concept.Role.{Role}
use Rattle.dl_base.specs.declared.row.NamedChange.{NamedChange}
use Rattle.dl_base.specs.declared.row.NamedRow.{NamedRow}
use Rattle.dl_base.specs.declared.row.Row.{Row}
use Rattle.base_store.specs.History.{ontology_of, transaction_count, used}
use Rattle.base_store.specs.Store.{StoreState}
use Rattle.gen_arena.specs.Store.{HandleStore, IsHandleStore, Names}
use Rattle.gen_arena.specs.declared.handle.Handle.{Handle}
use Rattle.query_shape.specs.ShapeFault.{IsKnown}
use Rattle.witness_book.specs.Witnesses.{generation_of}
use Rattle.base_engine.specs.Alike.{AreAlike}
use Rattle.base_reasoner.specs.Reasoned.{IsCompletedOf, Reasoned}
use Rattle.kept_base.specs.Sessions.{session_in}
use Rattle.kept_base.specs.declared.contents.Contents.{Contents}
use Rattle.base_engine.specs.State.{IsBase, MachineState}

-- Its ontology with the completed tables, where it has one; the names of individuals, and its rows by their numbers; its store's
-- numbers; its sessions; its prepared queries behind their handles; and how many commands changed it since it was loaded. It keeps no
-- transactions.
pub record BaseState : Type 0 where
  pub reasoned : Option Reasoned
  pub names : List (List ℕ)
  pub rows : List Row
  pub store : StoreState
  pub sessions : List (Option (List NamedChange))
  pub handles : HandleStore Question
  pub steps : ℕ

-- what is in memory, over a store
abbrev pub base_of : Contents → StoreState → BaseState
base_of c store = record { reasoned = c.reasoner; names = c.individuals; rows = c.rows; store = store; sessions = c.sessions; handles = c.handles.store; steps = c.steps }

abbrev pub ontology_in : Option Reasoned → Option Terminology
ontology_in None = None
ontology_in (Some r) = Some r.ontology

-- how often each role has become live; never, where there is no ontology
abbrev pub generation_by : Option Reasoned → Role → ℕ
generation_by None r = 0
generation_by (Some x) r = generation_of x.tables.book r

abbrev pub table_in : Option Reasoned → List TableRow
table_in None = []
table_in (Some x) = x.tables.rows

-- under the base's names its rows are those of the state's history, or there are none where there is no ontology
abbrev pub HasRowsOf : BaseState → MachineState → Type 0
HasRowsOf b s = (o : Terminology) (rows : List NamedRow) → IsBase s.history o rows → StandFor o b.names b.rows rows

-- It stands for this state: its ontology, its rows, its numbers, its sessions, its prepared queries and its generations are the state's.
pub record StandsForState (b : BaseState) (s : MachineState) : Type 0 where
  pub ontology_is : ontology_in b.reasoned ≡ ontology_of s.history
  pub rows_are : HasRowsOf b s
  pub no_rows : ontology_of s.history ≡ None → b.rows ≡ []
  pub used_is : b.store.used ≡ used s.history
  pub count_is : b.store.transactions ≡ transaction_count s.history
  pub sessions_are : (k : ℕ) → session_in b.sessions k ≡ s.session k
  pub handles_are : b.handles ≡ s.handles
  pub generations_are : (r : Role) → generation_by b.reasoned r ≡ s.generation r

-- its tables are completed, whatever state it stands for
abbrev pub HasCompletedTables : BaseState → Type 0
HasCompletedTables b = (s : MachineState) (o : Terminology) (rows : List NamedRow) → StandsForState b s → IsBase s.history o rows
    → AreCompleted o rows b.names (generation_by b.reasoned) (table_in b.reasoned)

-- the changes of an open session are at most 10,000, and of concepts and roles of the base's ontology
pub record AreSoundChanges (b : BaseState) (changes : List NamedChange) : Type 0 where
  pub o : Terminology
  pub ontology_is : ontology_in b.reasoned ≡ Some o
  pub named : All (λ c. IsNamedBy o c.row) changes
  pub few : length changes ≤ 10000

-- the book of witnesses is for the roles of the ontology, and was set once, and at most once more for each command
pub record IsBookSet (steps : ℕ) (r : Reasoned) : Type 0 where
  pub roles : r.tables.book.roles ≡ length r.ontology.roles
  pub calls : r.tables.book.calls ≤ steps + 1

-- there is an ontology, and it has the names of all atoms of the query
pub record IsKnownIn (reasoned : Option Reasoned) (q : Question) : Type 0 where
  pub o : Terminology
  pub ontology_is : ontology_in reasoned ≡ Some o
  pub known : All (IsKnown o) q.atoms

-- What is so of each base, over whatever host: its tables are completed of its rows, its book of witnesses was set as often as commands
-- allow, the changes of its sessions may stand in a transaction, but for the limits on rows and individuals, and its ontology has the
-- names of its prepared queries.
pub record IsSoundBase (b : BaseState) : Type 0 where
  pub completed : (r : Reasoned) → b.reasoned ≡ Some r → IsCompletedOf b.names b.rows r
  pub none : b.reasoned ≡ None → b.rows ≡ []
  pub book : (r : Reasoned) → b.reasoned ≡ Some r → IsBookSet b.steps r
  pub changes : (k : ℕ) (changes : List NamedChange) → session_in b.sessions k ≡ Some changes → AreSoundChanges b changes
  pub handles : IsHandleStore b.handles
  pub queries : (h : Handle) (q : Question) → Names b.handles h q → IsKnownIn b.reasoned q

-- the states that a base stands for are alike, and it stands for each that is alike to one of them
abbrev pub StandsForAlike : Type 0
StandsForAlike = (b : BaseState) (s u : MachineState) → StandsForState b s → (StandsForState b u → AreAlike s u) × (AreAlike s u → StandsForState b u)
