-- Small steps, as laws: what each command replies and changes.
use Rattle.std.specs.Prelude.{◌≡◌, ◌==◌, ℕ, List, [], ◌∷◌, codes, true, false, All, Option, Some, None, Ok, if◌then◌else◌}
use Rattle.dl_base.specs.Laws.{clashing, staff, who_is_staff}
use Rattle.dl_base.specs.Ontology.{Terminology}
use Rattle.dl_base.specs.Query.{Question}
use Rattle.dl_base.specs.declared.clash.Clash.{Clash}
use Rattle.dl_base.specs.declared.concept.Role.{Role}
use Rattle.dl_base.specs.declared.row.NamedRow.{NamedRow}
use Rattle.dl_base.specs.declared.row.NamedRow.TheVariants as row
use Rattle.dl_base.specs.declared.row.NamedChange.{NamedChange}
use Rattle.gen_arena.specs.Store.{HandleStore, empty_store, with_value, without}
use Rattle.gen_arena.specs.declared.handle.Handle.{Handle}
use Rattle.query_shape.specs.ShapeFault.{IsKnown}
use Rattle.base_store.specs.History.{History, Empty, Over, transaction_count, ontology_of}
use Rattle.reply_text.specs.declared.reply.Refusal.TheVariants as refusal
use Rattle.reply_text.specs.declared.reply.Reply.{Reply}
use Rattle.reply_text.specs.declared.reply.Reply.TheVariants as reply
use Rattle.script_reader.specs.declared.command.Command.TheVariants as command
use Rattle.script_reader.specs.declared.request.Request.TheVariants as request
use Rattle.base_engine.specs.State.{MachineState, IsInitial, handle_limit}
use Rattle.base_engine.specs.Refusals.{IsRefusedFor}
use Rattle.base_engine.specs.Requests.{commit_of}
use Rattle.base_engine.specs.Steps.{AllStep, StepsTo}

-- ---- small states

-- all sessions are closed
abbrev pub no_session : ℕ → Option (List NamedChange)
no_session n = None

-- session 0 is open with these changes, and the others are closed
abbrev pub first_open : List NamedChange → ℕ → Option (List NamedChange)
first_open changes n = if n == 0 then Some changes else None

-- sessions 0 and 1 are open with these changes
abbrev pub both_open : List NamedChange → ℕ → Option (List NamedChange)
both_open changes n = if n == 0 then Some changes else if n == 1 then Some changes else None

-- no query is prepared
abbrev pub no_handle : HandleStore Question
no_handle = empty_store handle_limit

abbrev pub resting : History → (Role → ℕ) → MachineState
resting h generation = record { history = h; session = no_session; handles = no_handle; generation = generation }

abbrev pub working : History → List NamedChange → (Role → ℕ) → MachineState
working h changes generation = record { history = h; session = first_open changes; handles = no_handle; generation = generation }

-- prepared queries are kept behind these handles
abbrev pub keeping : History → HandleStore Question → (Role → ℕ) → MachineState
keeping h handles generation = record (resting h generation) { handles = handles }

abbrev pub adds : NamedRow → NamedChange
adds r = record { add = true; row = r }

abbrev pub deletes : NamedRow → NamedChange
deletes r = record { add = false; row = r }

abbrev pub ann : NamedRow
ann = row.Concept (codes "Prof") (codes "ann")

-- a base about staff, without rows, and with ann's
abbrev pub bare_base : History
bare_base = Over staff []

abbrev pub with_ann : History
with_ann = Over staff ((adds ann ∷ []) ∷ [])

-- ---- what is quiet

-- a block gives a base its ontology, and tells how many inclusions it has; each role has generation 0
abbrev pub BlockLoads : Type 0
BlockLoads = (generation : Role → ℕ) → StepsTo (resting Empty generation) (request.Block (Ok staff)) (reply.Loaded 1) (resting bare_base (λ r. 0))

-- a session is opened without changes, takes changes at its end, in order, and is given up
abbrev pub SessionTakesChanges : Type 0
SessionTakesChanges = (generation : Role → ℕ) → AllStep (resting bare_base generation)
    (request.Plain (command.Begin 0) ∷ request.Plain (command.Add 0 ann) ∷ request.Plain (command.Del 0 ann) ∷ [])
    (reply.Done ∷ reply.Done ∷ reply.Done ∷ [])
    (working bare_base (adds ann ∷ deletes ann ∷ []) generation)

abbrev pub AbortForgets : Type 0
AbortForgets = (changes : List NamedChange) (generation : Role → ℕ) → StepsTo (working bare_base changes generation) (request.Plain (command.Abort 0)) reply.Done (resting bare_base generation)

abbrev pub TidyKeeps : Type 0
TidyKeeps = (s : MachineState) → StepsTo s (request.Plain command.Tidy) reply.Done s

-- `reopen` tells the number of transactions, and no session is open behind it, whichever was before
abbrev pub ReopenClosesSessions : Type 0
ReopenClosesSessions = (s t : MachineState) (o : Terminology) (k : ℕ) → IsInitial s.history t → ontology_of s.history ≡ Some o
    → StepsTo s (request.Plain command.Reopen) (reply.Reopened (transaction_count s.history)) t × IsRefusedFor t (commit_of k) refusal.NotOpen

-- ---- handles

-- the first handle that is given in the first slot, and the second
abbrev pub first_handle : Handle
first_handle = record { slot = 0; generation = 1 }

abbrev pub second_handle : Handle
second_handle = record { slot = 0; generation = 2 }

-- a query is kept under the first handle
abbrev pub one_kept : HandleStore Question
one_kept = with_value who_is_staff no_handle

abbrev pub PrepareKeeps : Type 0
PrepareKeeps = (generation : Role → ℕ) → StepsTo (resting bare_base generation) (request.Plain (command.Prepare who_is_staff)) (reply.Prepared first_handle) (keeping bare_base one_kept generation)

-- it is answered over the rows as they are then
abbrev pub RunAnswers : Type 0
RunAnswers = (generation : Role → ℕ) → StepsTo (keeping with_ann one_kept generation) (request.Plain (command.Run first_handle)) (reply.Answers ((codes "ann" ∷ []) ∷ [])) (keeping with_ann one_kept generation)

-- Once it is dropped its handle is refused with the last generation of its slot, and the slot is given again under another handle.
abbrev pub DropForgets : Type 0
DropForgets = (generation : Role → ℕ)
    → StepsTo (keeping bare_base one_kept generation) (request.Plain (command.Drop first_handle)) reply.Done (keeping bare_base (without first_handle one_kept) generation)
    × IsRefusedFor (keeping bare_base (without first_handle one_kept) generation) (request.Plain (command.Run first_handle)) (refusal.Dropped 1)
    × StepsTo (keeping bare_base (without first_handle one_kept) generation) (request.Plain (command.Prepare who_is_staff)) (reply.Prepared second_handle)
    (keeping bare_base (with_value who_is_staff (without first_handle one_kept)) generation)

-- behind `reopen` no handle was ever given
abbrev pub ReopenForgetsHandles : Type 0
ReopenForgetsHandles = (s t : MachineState) (o : Terminology) (h : Handle) → IsInitial s.history t → ontology_of s.history ≡ Some o
    → IsRefusedFor t (request.Plain (command.Run h)) refusal.NeverGiven × IsRefusedFor t (request.Plain (command.Drop h)) refusal.NeverGiven

-- ---- commits

-- session 0 has these changes over this history: its commit replies so, and the history has one transaction more
abbrev pub CommitReplies : List (List NamedChange) → List NamedChange → List (List NamedChange) → Reply → Type 0
CommitReplies before changes after r = (generation : Role → ℕ) → StepsTo (working (Over staff before) changes generation) (commit_of 0) r (resting (Over staff after) generation)

-- a row that is new
abbrev pub CommitAdds : Type 0
CommitAdds = CommitReplies [] (adds ann ∷ []) ((adds ann ∷ []) ∷ []) (reply.Committed 1 1 0)

-- a row that goes
abbrev pub CommitRemoves : Type 0
CommitRemoves = CommitReplies ((adds ann ∷ []) ∷ []) (deletes ann ∷ []) ((adds ann ∷ []) ∷ (deletes ann ∷ []) ∷ []) (reply.Committed 2 0 1)

-- no changes at all are a transaction too
abbrev pub CommitOfNothing : Type 0
CommitOfNothing = CommitReplies [] [] ([] ∷ []) (reply.Committed 1 0 0)

-- a row that is there already, and one that isn't there
abbrev pub CommitAddsAgain : Type 0
CommitAddsAgain = CommitReplies ((adds ann ∷ []) ∷ []) (adds ann ∷ []) ((adds ann ∷ []) ∷ (adds ann ∷ []) ∷ []) (reply.Committed 2 0 0)

abbrev pub CommitRemovesAbsent : Type 0
CommitRemovesAbsent = CommitReplies [] (deletes ann ∷ []) ((deletes ann ∷ []) ∷ []) (reply.Committed 1 0 0)

-- a row that comes and goes in one transaction, and one that goes and comes
abbrev pub AddThenDelete : Type 0
AddThenDelete = CommitReplies [] (adds ann ∷ deletes ann ∷ []) ((adds ann ∷ deletes ann ∷ []) ∷ []) (reply.Committed 1 0 0)

abbrev pub DeleteThenAdd : Type 0
DeleteThenAdd = CommitReplies [] (deletes ann ∷ adds ann ∷ []) ((deletes ann ∷ adds ann ∷ []) ∷ []) (reply.Committed 1 1 0)

-- two sessions that add one row: it is new by the first commit alone
abbrev pub TwoSessions : Type 0
TwoSessions = (generation : Role → ℕ) → AllStep (record { history = bare_base; session = both_open (adds ann ∷ []); handles = no_handle; generation = generation })
    (commit_of 0 ∷ commit_of 1 ∷ []) (reply.Committed 1 1 0 ∷ reply.Committed 2 0 0 ∷ [])
    (resting (Over staff ((adds ann ∷ []) ∷ (adds ann ∷ []) ∷ [])) generation)

-- ---- questions

-- the rows of a commit are what is asked about
abbrev pub AskAnswers : Type 0
AskAnswers = (generation : Role → ℕ) → StepsTo (resting with_ann generation) (request.Plain (command.Ask who_is_staff)) (reply.Answers ((codes "ann" ∷ []) ∷ [])) (resting with_ann generation)

abbrev pub CheckFindsNone : Type 0
CheckFindsNone = (generation : Role → ℕ) → StepsTo (resting with_ann generation) (request.Plain command.Check) reply.Consistent (resting with_ann generation)

-- a base with several clashes
abbrev pub contradicted : History
contradicted = Over clashing ((adds (row.Concept (codes "A") (codes "a")) ∷ adds (row.Concept (codes "B") (codes "b")) ∷ []) ∷ [])

-- its first one, by names
abbrev pub first_told : Clash
first_told = record {
  inclusion = 7;
  name = codes "a";
  path = record { name = codes "p"; inverse = false } ∷ record { name = codes "s"; inverse = false } ∷ [];
}

-- `check` tells it, and so does each query whose names the ontology has, in place of answers
abbrev pub CheckTellsFirst : Type 0
CheckTellsFirst = (generation : Role → ℕ) → StepsTo (resting contradicted generation) (request.Plain command.Check) (reply.Inconsistent first_told) (resting contradicted generation)

abbrev pub AskTellsClash : Type 0
AskTellsClash = (generation : Role → ℕ) (q : Question) → All (IsKnown clashing) q.atoms
    → StepsTo (resting contradicted generation) (request.Plain (command.Ask q)) (reply.Inconsistent first_told) (resting contradicted generation)
