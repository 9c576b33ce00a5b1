-- The state of the machine, and the one that it begins with.
use Rattle.std.specs.Prelude.{◌≡◌, ◌==◌, ℕ, ◌+◌, List, Option, Some, None, if◌then◌else◌}
use Rattle.dl_base.specs.Ontology.{Terminology, IsTerminology}
use Rattle.dl_base.specs.Query.{Question}
use Rattle.dl_base.specs.Completion.{IsLive}
use Rattle.dl_base.specs.declared.concept.Role.{Role}
use Rattle.dl_base.specs.declared.row.NamedRow.{NamedRow}
use Rattle.dl_base.specs.declared.row.NamedChange.{NamedChange}
use Rattle.gen_arena.specs.Store.{HandleStore, empty_store}
use Rattle.base_store.specs.History.{History, AreRowsAfter, ontology_of}

-- ---- histories

-- the ontology of the history, where it has one, is within the limits
abbrev pub IsWithinLimits : History → Type 0
IsWithinLimits h = (o : Terminology) → ontology_of h ≡ Some o → IsTerminology o

-- the history has this ontology and these rows
pub record IsBase (h : History) (o : Terminology) (rows : List NamedRow) : Type 0 where
  pub ontology_is : ontology_of h ≡ Some o
  pub rows_are : AreRowsAfter h rows

-- the role is live in the history
pub record IsLiveIn (h : History) (r : Role) : Type 0 where
  pub o : Terminology
  pub rows : List NamedRow
  pub base : IsBase h o rows
  pub live : IsLive o rows r

-- ---- states

-- A history; for each session, from 0 to 15, that it is closed, or open with changes; the prepared queries behind their handles; and a
-- generation for each role.
pub record MachineState : Type 0 where
  pub history : History
  pub session : ℕ → Option (List NamedChange)
  pub handles : HandleStore Question
  pub generation : Role → ℕ

-- this session is closed, or open with these changes, and all else is as it was
abbrev pub put_session : ℕ → Option (List NamedChange) → MachineState → MachineState
put_session k changes s = record s { session = λ n. if n == k then changes else s.session n }

-- so many slots are given to prepared queries at most
abbrev pub handle_limit : ℕ
handle_limit = 256

-- The machine begins with this history: all sessions are closed, no handle is given, and each live role has generation 1, all others 0.
pub record IsInitial (h : History) (s : MachineState) : Type 0 where
  pub history : s.history ≡ h
  pub closed : (k : ℕ) → s.session k ≡ None
  pub none_given : s.handles ≡ empty_store handle_limit
  pub live : (r : Role) → IsLiveIn h r → s.generation r ≡ 1
  pub others : (r : Role) → (IsLiveIn h r → ⊥) → s.generation r ≡ 0

-- the role is live in the later history and was not in the earlier one
pub record BecomesLiveIn (earlier later : History) (r : Role) : Type 0 where
  pub now : IsLiveIn later r
  pub not_before : IsLiveIn earlier r → ⊥

-- the generation of each role rises by one exactly where the role becomes live
pub record Raises (earlier later : History) (before after : Role → ℕ) : Type 0 where
  pub raised : (r : Role) → BecomesLiveIn earlier later r → after r ≡ before r + 1
  pub kept : (r : Role) → (BecomesLiveIn earlier later r → ⊥) → after r ≡ before r
