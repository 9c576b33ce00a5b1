-- What is loaded of a history.
use Rattle.std.specs.Prelude.{◌≡◌, ◌≢◌, ◌<◌, ◌≤◌, ℕ, List, [], length, All, AllPairs, Some, None}
use Rattle.host_io.specs.Disk.{Disk}
use Rattle.gated_log.specs.declared.reader.LogFault.{LogFault}
use Rattle.gated_log.specs.declared.reader.LogFault.TheVariants as log
use Rattle.assert_tables.specs.Rows.{individuals_of}
use Rattle.dl_base.specs.Numbers.{StandFor}
use Rattle.dl_base.specs.Ontology.{Terminology}
use Rattle.dl_base.specs.declared.row.NamedRow.{NamedRow}
use Rattle.dl_base.specs.declared.row.Row.{Row}
use Rattle.dl_base.specs.declared.row.Row.TheVariants as row
use Rattle.base_store.specs.History.{History, Empty, Over, AreRowsAfter, ontology_of, transaction_count, used}
use Rattle.base_store.specs.Legal.{IsCrowded}
use Rattle.base_store.specs.Area.{KeepsHistory}
use Rattle.base_store.specs.Store.{StandsFor, StoreState}
use Rattle.base_store.specs.declared.load.Loaded.{Loaded}
use Rattle.base_store.specs.declared.load.LoadFault.{LoadFault}
use Rattle.base_store.specs.declared.load.LoadFault.TheVariants.{DiskFault, Damaged, NoMemory}

-- the history's rows, by the numbers of the ontology's names and of the book's; without an ontology there is neither
abbrev pub HasRows : History → List (List ℕ) → List Row → Type 0
HasRows Empty names rows = (names ≡ []) × (rows ≡ [])
HasRows (Over o entries) names rows = (these : List NamedRow) × AreRowsAfter (Over o entries) these × StandFor o names rows these

-- the history's ontology, each of its rows once, under the numbers of the book, and the number of its transactions
pub record IsLoadedOf (h : History) (l : Loaded) : Type 0 where
  pub ontology : l.ontology ≡ ontology_of h
  pub rows : HasRows h l.individuals l.rows
  pub once : AllPairs (λ x y. x ≢ y) l.rows
  pub transactions : l.transactions ≡ transaction_count h

-- the row names places of the ontology and of a book of so many names
abbrev pub IsRowIn : Terminology → ℕ → Row → Type 0
IsRowIn o names (row.Concept c n) = (c < length o.concepts) × (n < names)
IsRowIn o names (row.Role p n m) = (p < length o.roles) × (n < names) × (m < names)

-- Without an ontology there are no rows. No row stands twice, all are in range, and the limits hold.
pub record IsInRange (l : Loaded) : Type 0 where
  pub none : l.ontology ≡ None → l.rows ≡ []
  pub once : AllPairs (λ x y. x ≢ y) l.rows
  pub within : (o : Terminology) → l.ontology ≡ Some o → All (IsRowIn o (length l.individuals)) l.rows
  pub few_rows : length l.rows ≤ 1000000
  pub few_individuals : length (individuals_of l.rows) ≤ 65536
  pub few_names : length l.individuals < 540000000
  pub few_transactions : l.transactions < 9100000000000000000

-- Whatever the host tells, what is loaded is a history within the limits, and the store has its numbers.
pub record HasNumbersOf (s : StoreState) (l : Loaded) : Type 0 where
  pub history : History
  pub loaded : IsLoadedOf history l
  pub uncrowded : IsCrowded history → ⊥
  pub used_is : s.used ≡ used history
  pub count : s.transactions ≡ transaction_count history

-- the area keeps this history, which was loaded, and now the store stands for it
pub record LoadsFrom (area : List ℕ) (disk : Disk) (s : StoreState) (l : Loaded) : Type 0 where
  pub history : History
  pub kept : KeepsHistory area history
  pub stands : StandsFor s disk history
  pub loaded : IsLoadedOf history l

-- where the history is damaged, it is that of the first area, and the place has this
abbrev pub LoadFaultSays : (ℕ → Type 0) → LoadFault → Type 0
LoadFaultSays P DiskFault = Unit {0}
LoadFaultSays P (Damaged area at) = (area ≡ 0) × P at
LoadFaultSays P NoMemory = Unit {0}

-- a fault of the log, handed on
abbrev pub load_fault : LogFault → LoadFault
load_fault log.DiskFault = DiskFault
load_fault (log.Damaged area at) = Damaged area at
