-- What contracts see of a store, and how it stands to its history and to the first area.
use Rattle.std.specs.Prelude.{◌≡◌, ◌⊎◌, ℕ, List}
use Rattle.host_io.specs.Disk.{Disk, IsSettled}
use Rattle.gated_log.specs.Entries.{Entry}
use Rattle.base_store.specs.History.{History, transaction_count, used}
use Rattle.base_store.specs.Legal.{Continues}
use Rattle.base_store.specs.Area.{HoldsHistory}

-- the bytes that its history uses, and the number of transactions
pub record StoreState : Type 0 where
  pub used : ℕ
  pub transactions : ℕ

-- What a read gives is the only image, and the first area isn't fresh and holds this history, which ends at this place.
pub record IsAtEnd (end : ℕ) (d : Disk) (h : History) : Type 0 where
  pub is_settled : IsSettled d
  pub held : HoldsHistory d.first.reads h
  pub place : end ≡ used h

-- the store stands for this history, and the first area holds it
pub record StandsFor (s : StoreState) (d : Disk) (h : History) : Type 0 where
  pub at_end : IsAtEnd s.used d h
  pub count : s.transactions ≡ transaction_count h

-- the new area holds each history to which the entry leads from what the old one held
abbrev pub HoldsMore : Entry → List ℕ → List ℕ → Type 0
HoldsMore e old new = (h next : History) → HoldsHistory old h → Continues h e next → HoldsHistory new next

-- a stop leaves the history from before, or that to which the entry leads
abbrev pub HoldsEitherMore : Entry → List ℕ → List ℕ → Type 0
HoldsEitherMore e old left = (h next : History) → HoldsHistory old h → Continues h e next → HoldsHistory left h ⊎ HoldsHistory left next

-- where the old store stood for a history over the old disk, the new one stands for the next history over the new disk
abbrev pub StandsForNext : (History → History) → StoreState → Disk → StoreState → Disk → Type 0
StandsForNext next old d new e = (h : History) → StandsFor old d h → StandsFor new e (next h)

-- a stop leaves the history from before, or the next one
abbrev pub HoldsEither : (History → History) → List ℕ → List ℕ → Type 0
HoldsEither next old left = (h : History) → HoldsHistory old h → HoldsHistory left h ⊎ HoldsHistory left (next h)
