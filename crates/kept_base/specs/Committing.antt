-- What a commit makes of a base.
use Rattle.std.specs.Prelude.{◌≡◌, ◌≢◌, ◌<◌, ◌≤◌, ◌+◌, ◌++◌, ℕ, List, length, All, AllPairs, Some, None, slice_get}
use Rattle.assert_tables.specs.Rows.{AreRisingRows}
use Rattle.completion.specs.Numbered.{IsRowOf}
use Rattle.dl_base.specs.Ontology.{IsTerminology, Terminology}
use Rattle.dl_base.specs.declared.row.NamedChange.{NamedChange}
use Rattle.dl_base.specs.declared.row.Row.{Row}
use Rattle.txn_codec.specs.Spelling.{changes_bytes}
use Rattle.base_store.specs.Loading.{AreFew, FollowsChanges}
use Rattle.base_store.specs.Store.{StoreState}
use Rattle.reply_text.specs.declared.reply.Refusal.{Refusal}
use Rattle.reply_text.specs.declared.reply.Refusal.TheVariants as refusal
use Rattle.row_changes.specs.Difference.{IsDifference}
use Rattle.row_changes.specs.declared.changes.Made.{Made as MadeChanges}
use Rattle.row_changes.specs.declared.difference.Difference.{Difference}
use Rattle.base_reasoner.specs.Reasoned.{Reasoned}
use Rattle.base_reasoner.specs.Renewal.{IsRenewed}
use Rattle.base_engine.specs.Requests.{commit_of}
use Rattle.kept_base.specs.Base.{BaseState}
use Rattle.kept_base.specs.Doing.{DecidesRefusal}
use Rattle.kept_base.specs.Sessions.{PutsSession, session_in}
use Rattle.kept_base.specs.declared.commits.Made.{Made}
use Rattle.kept_base.specs.declared.commits.Made.TheVariants as made
use Rattle.kept_base.specs.declared.contents.Contents.{Contents}
use Rattle.kept_base.specs.declared.contents.Judged.{Judged}
use Rattle.kept_base.specs.declared.contents.Judged.TheVariants as judged
use Rattle.kept_base.specs.declared.contents.Outcome.{Outcome}
use Rattle.kept_base.specs.declared.contents.Outcome.TheVariants as outcome

-- there is an ontology, and the session is open
pub record IsOpenIn (b : BaseState) (k : ℕ) : Type 0 where
  pub reasoned : Reasoned
  pub reasoned_is : b.reasoned ≡ Some reasoned
  pub changes : List NamedChange
  pub were : session_in b.sessions k ≡ Some changes

-- where the history with one transaction more ends
abbrev pub end_of : StoreState → List NamedChange → ℕ
end_of store changes = store.used + 6 + length (changes_bytes changes)

-- ---- changes on rows

-- The limit that is passed: too many rows or individuals, and else, that the log would end past 1 GiB.
pub data IsLimit (rows : List Row) (end : ℕ) : Refusal → Type 0 where
  crowded : (AreFew rows → ⊥) → IsLimit rows end refusal.Crowded
  full : AreFew rows → 1073741824 < end → IsLimit rows end refusal.LogFull

-- the rows that the changes lead to pass this limit
pub record GoesOverLimit (o : Terminology) (names : List (List ℕ)) (store : StoreState) (changes : List NamedChange) (rows : List Row) (e : Refusal) : Type 0 where
  pub within_limits : IsTerminology o
  pub more : List (List ℕ)
  pub new_rows : List Row
  pub follows : FollowsChanges o changes names rows more new_rows
  pub rising : AreRisingRows new_rows
  pub limit : IsLimit new_rows (end_of store changes) e

-- the changes are made on the rows, with what came and went, and with the names that the book lacks
pub record AreMade (o : Terminology) (names : List (List ℕ)) (changes : List NamedChange) (old new : List Row) (made : MadeChanges) : Type 0 where
  pub within_limits : IsTerminology o
  pub follows : FollowsChanges o changes names old (names ++ made.newcomers) new
  pub differ : IsDifference old new made.difference
  pub distinct : AllPairs (λ x y. x ≢ y) (names ++ made.newcomers)
  pub short : length names + length made.newcomers < 4000000000
  pub few : AreFew new

-- the rows are as they were where a limit is passed, or the changes are made on them and have room
abbrev pub JudgesChanges : Terminology → List (List ℕ) → StoreState → List NamedChange → List Row → List Row → Judged → Type 0
JudgesChanges o names store changes old new (judged.Refused e) = (new ≡ old) × GoesOverLimit o names store changes old e
JudgesChanges o names store changes old new (judged.Fit made) = AreMade o names changes old new made × (end_of store changes ≤ 1073741824)

-- ---- what is in memory

-- the newcomers have room, the tables can be completed of the rows, and the session is open
pub record CanRenew (c : Contents) (k : ℕ) (made : MadeChanges) : Type 0 where
  pub reasoned : Reasoned
  pub reasoned_is : c.reasoner ≡ Some reasoned
  pub changes : List NamedChange
  pub were : session_in c.sessions k ≡ Some changes
  pub short : length c.individuals + length made.newcomers < 4000000000
  pub distinct : AllPairs (λ x y. x ≢ y) (c.individuals ++ made.newcomers)
  pub within : All (IsRowOf reasoned.ontology) c.rows
  pub roles : reasoned.tables.book.roles ≡ length reasoned.ontology.roles
  pub calls : reasoned.tables.book.calls < 4000000000

-- how many rows came, and how many went
pub record CountsDifference (d : Difference) (added removed : ℕ) : Type 0 where
  pub come_rise : AreRisingRows d.come
  pub gone_rise : AreRisingRows d.gone
  pub added_is : added ≡ length d.come
  pub removed_is : removed ≡ length d.gone

-- the newcomers stand behind the names of before, the tables are completed of the rows, and the session is closed
pub record TakesChanges (old : Contents) (k : ℕ) (made : MadeChanges) (changes : List NamedChange) (added removed : ℕ) (new : Contents) : Type 0 where
  pub were : session_in old.sessions k ≡ Some changes
  pub names : new.individuals ≡ old.individuals ++ made.newcomers
  pub rows : new.rows ≡ old.rows
  pub after : Reasoned
  pub after_is : new.reasoner ≡ Some after
  pub renewed : (before : Reasoned) → old.reasoner ≡ Some before → IsRenewed old.rows before after
  pub sessions : PutsSession k None old.sessions new.sessions
  pub handles : new.handles ≡ old.handles
  pub counts : CountsDifference made.difference added removed
  pub steps_are : new.steps ≡ old.steps + 1

abbrev pub TakesMade : Contents → ℕ → MadeChanges → Outcome → Contents → Type 0
TakesMade old k made (outcome.Refused e) new = ⊥
TakesMade old k made (outcome.Made changes added removed) new = TakesChanges old k made changes added removed new

-- ---- the base

-- how many rows came, and how many went
pub record CountsRows (old new : List Row) (added removed : ℕ) : Type 0 where
  pub difference : Difference
  pub differ : IsDifference old new difference
  pub counts : CountsDifference difference added removed

-- The changes of the session are made on the rows, the names that they bring stand behind those of before, the tables are completed of
-- the new rows, in the generations of a book that was set once more, and the session is closed. The store is as it was.
pub record MakesTransaction (old : BaseState) (k : ℕ) (changes : List NamedChange) (added removed : ℕ) (new : BaseState) : Type 0 where
  pub before : Reasoned
  pub before_is : old.reasoned ≡ Some before
  pub after : Reasoned
  pub after_is : new.reasoned ≡ Some after
  pub renewed : IsRenewed new.rows before after
  pub roles : before.tables.book.roles ≡ length before.ontology.roles
  pub within_limits : IsTerminology before.ontology
  pub were : session_in old.sessions k ≡ Some changes
  pub names_stay : (n : ℕ) (x : List ℕ) → slice_get old.names n ≡ Some x → slice_get new.names n ≡ Some x
  pub follows : FollowsChanges before.ontology changes old.names old.rows new.names new.rows
  pub few : AreFew new.rows
  pub room : end_of old.store changes ≤ 1073741824
  pub counts : CountsRows old.rows new.rows added removed
  pub store_stays : new.store ≡ old.store
  pub sessions : PutsSession k None old.sessions new.sessions
  pub handles_stay : new.handles ≡ old.handles
  pub steps_are : new.steps ≡ old.steps + 1

-- what making the changes of a session comes to
abbrev pub IsMade : BaseState → ℕ → Outcome → BaseState → Type 0
IsMade old k (outcome.Refused e) new = (new ≡ old) × DecidesRefusal old (commit_of k) (Some e)
IsMade old k (outcome.Made changes added removed) new = MakesTransaction old k changes added removed new

abbrev pub MakesBase : BaseState → ℕ → Made → Type 0
MakesBase old k (made.Refused b e) = (b ≡ old) × DecidesRefusal old (commit_of k) (Some e)
MakesBase old k (made.Ready b changes added removed) = MakesTransaction old k changes added removed b

-- the store has one transaction more
abbrev pub with_store : BaseState → List NamedChange → BaseState
with_store b changes = record b { store = record { used = end_of b.store changes; transactions = b.store.transactions + 1 } }
