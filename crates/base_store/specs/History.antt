-- Histories: an ontology or none, and behind an ontology its transactions, each a list of changes.
use Rattle.std.specs.Prelude.{◌≡◌, ◌≢◌, ◌↔◌, ◌⊎◌, ◌+◌, ℕ, true, List, Option, Some, None, [], ◌∷◌, ◌++◌, length, map, sum_by, Contains}
use Rattle.dl_base.specs.Ontology.{Terminology}
use Rattle.dl_base.specs.Rows.{AreRows}
use Rattle.dl_base.specs.declared.row.NamedRow.{NamedRow}
use Rattle.dl_base.specs.declared.row.NamedChange.{NamedChange}
use Rattle.txn_codec.specs.Spelling.{changes_bytes, ontology_bytes}

pub data History : Type 0 where
  Empty : History
  Over : Terminology → List (List NamedChange) → History

abbrev pub transactions : History → List (List NamedChange)
transactions Empty = []
transactions (Over o entries) = entries

-- the ontology of a history, where it has one
abbrev pub ontology_of : History → Option Terminology
ontology_of Empty = None
ontology_of (Over o entries) = Some o

-- the history has this ontology
abbrev pub HasOntology : History → Terminology → Type 0
HasOntology Empty o = ⊥
HasOntology (Over p entries) o = p ≡ o

abbrev pub transaction_count : History → ℕ
transaction_count h = length (transactions h)

-- an ontology where there is none
abbrev pub with_ontology : Terminology → History → History
with_ontology o Empty = Over o []
with_ontology o (Over p entries) = Over p entries

-- one transaction more behind an ontology
abbrev pub with_transaction : List NamedChange → History → History
with_transaction changes Empty = Empty
with_transaction changes (Over o entries) = Over o (entries ++ changes ∷ [])

-- what its entries hold, in order
abbrev pub payloads : History → List (List ℕ)
payloads Empty = []
payloads (Over o entries) = ontology_bytes o ∷ map changes_bytes entries

-- how many bytes of an area it takes: a header, and each entry with its gate, kind and length
abbrev pub used : History → ℕ
used h = 17 + sum_by (λ payload. 6 + length payload) (payloads h)

-- The change leads from one list of rows to another: its row comes or goes, and all others stay. So adding a row that is
-- there, and removing one that isn't, changes nothing.
pub record IsAfterChange (old : List NamedRow) (change : NamedChange) (new : List NamedRow) : Type 0 where
  pub rising : AreRows new
  pub each : (r : NamedRow) → Contains new r ↔ (((r ≡ change.row) × (change.add ≡ true)) ⊎ ((r ≢ change.row) × Contains old r))

-- the changes in order, each from where the one before it led
abbrev pub IsAfterChanges : List NamedRow → List NamedChange → List NamedRow → Type 0
IsAfterChanges old [] new = new ≡ old
IsAfterChanges old (change ∷ changes) new = (next : List NamedRow) × IsAfterChange old change next × IsAfterChanges next changes new

-- the transactions in order
abbrev pub IsAfterTransactions : List NamedRow → List (List NamedChange) → List NamedRow → Type 0
IsAfterTransactions old [] new = new ≡ old
IsAfterTransactions old (entry ∷ entries) new = (next : List NamedRow) × IsAfterChanges old entry next × IsAfterTransactions next entries new

-- the rows of a history: none at first, then all changes in order
abbrev pub AreRowsAfter : History → List NamedRow → Type 0
AreRowsAfter h rows = IsAfterTransactions [] (transactions h) rows
