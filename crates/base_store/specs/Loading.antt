-- What is kept while the entries of a log are read.
use Rattle.std.specs.Prelude.{◌≡◌, ◌≤◌, ◌*◌, ◌+◌, ℕ, List, ◌∷◌, [], ◌++◌, length, Option}
use Rattle.std.specs.Option.{ForSome}
use Rattle.host_io.specs.Disk.{Disk, IsSettled}
use Rattle.assert_tables.specs.Listing.{IsListOf}
use Rattle.assert_tables.specs.Rows.{individuals_of}
use Rattle.dl_base.specs.Numbers.{StandFor}
use Rattle.dl_base.specs.Ontology.{Terminology}
use Rattle.dl_base.specs.declared.row.NamedRow.{NamedRow}
use Rattle.dl_base.specs.declared.row.NamedChange.{NamedChange}
use Rattle.dl_base.specs.declared.row.Row.{Row}
use Rattle.txn_codec.specs.Changes.{changes_payload}
use Rattle.gated_log.specs.Entries.{BeginsWithEntries, Entry, within}
use Rattle.gated_log.specs.State.{LogState, LogReaderState}
use Rattle.base_store.specs.History.{History, Over, IsAfterChange, IsAfterChanges, transaction_count, used, ontology_of}
use Rattle.base_store.specs.Legal.{Continues, IsNextTransaction, Tells}
use Rattle.base_store.specs.Area.{HoldsHistory, area_limit}
use Rattle.base_store.specs.Loaded.{HasRows}
use Rattle.base_store.specs.declared.load.Loaded.{Loaded}
use Rattle.base_store.specs.declared.loading.Loading.{Loading}

-- Whatever rows the first ones by number stand for, the others stand for those to which the change leads.
abbrev pub FollowsChange : Terminology → NamedChange → List (List ℕ) → List Row → List (List ℕ) → List Row → Type 0
FollowsChange o change names rows more new_rows = (old new : List NamedRow) → StandFor o names rows old → IsAfterChange old change new → StandFor o more new_rows new

abbrev pub FollowsChanges : Terminology → List NamedChange → List (List ℕ) → List Row → List (List ℕ) → List Row → Type 0
FollowsChanges o changes names rows more new_rows = (old new : List NamedRow) → StandFor o names rows old → IsAfterChanges old changes new → StandFor o more new_rows new

-- at most 1,000,000 rows, which name at most 65,536 individuals
pub record AreFew (rows : List Row) : Type 0 where
  pub few_rows : length rows ≤ 1000000
  pub few_individuals : length (individuals_of rows) ≤ 65536

-- behind these transactions the changes are legal, and the rows are those behind them
pub record FollowsNext (o : Terminology) (before : List (List NamedChange)) (changes : List NamedChange) (names : List (List ℕ)) (rows : List Row) : Type 0 where
  pub legal : IsNextTransaction o before changes
  pub has : HasRows (Over o (before ++ changes ∷ [])) names rows
  pub few : AreFew rows

-- the bytes are the payload of such changes, which bring at most a name for every two bytes
pub record TakesPayload (payload : List ℕ) (o : Terminology) (before : List (List NamedChange)) (names more : List (List ℕ)) (rows : List Row) : Type 0 where
  pub changes : List NamedChange
  pub is : changes_payload payload changes
  pub follows : FollowsNext o before changes more rows
  pub few_names : 2 * length more ≤ 2 * length names + length payload

-- what is kept is this history
pub record IsLoadingOf (l : Loading) (h : History) : Type 0 where
  pub ontology : l.ontology ≡ ontology_of h
  pub rows : HasRows h l.individuals l.rows
  pub few : AreFew l.rows
  pub few_names : 2 * length l.individuals ≤ used h
  pub transactions : l.transactions ≡ transaction_count h

-- the entry leads to the history that is kept
pub record KeepsNext (h : History) (e : Entry) (l : Loading) : Type 0 where
  pub next : History
  pub leads : Continues h e next
  pub keeps : IsLoadingOf l next

-- the area begins with entries that tell this history
pub record BeginsWith (area : List ℕ) (h : History) : Type 0 where
  pub entries : List Entry
  pub rest : List ℕ
  pub begins : BeginsWithEntries (within area_limit) area entries rest
  pub told : Tells entries h

-- what is kept is what the entries before the reader's gate tell
pub record HasReadSoFar (disk : Option Disk) (r : LogReaderState) (l : Loading) : Type 0 where
  pub history : History
  pub keeps : IsLoadingOf l history
  pub limit : r.limit ≡ area_limit
  pub within : r.gate ≤ area_limit
  pub place : r.gate ≡ used history
  pub area : ForSome disk (λ d. IsSettled d × BeginsWith d.first.reads history)

-- what is kept is the history that the area holds, and the log takes entries behind it
pub record HasReadAll (disk : Option Disk) (log : LogState) (l : Loading) : Type 0 where
  pub history : History
  pub keeps : IsLoadingOf l history
  pub limit : log.limit ≡ area_limit
  pub within : log.end ≤ area_limit
  pub place : log.end ≡ used history
  pub area : ForSome disk (λ d. IsSettled d × HoldsHistory d.first.reads history)

-- the ontology, the book, the number and the rows, each once
pub record HasAllOf (l : Loading) (loaded : Loaded) : Type 0 where
  pub ontology : loaded.ontology ≡ l.ontology
  pub individuals : loaded.individuals ≡ l.individuals
  pub transactions : loaded.transactions ≡ l.transactions
  pub rows : IsListOf l.rows loaded.rows
