-- One step of the machine, and its replies to a list of requests.
use Rattle.std.specs.Prelude.{◌≡◌, ◌↔◌, ℕ, true, false, List, [], ◌∷◌, ◌++◌, length, Contains, Some, None, Ok}
use Rattle.dl_base.specs.Clashes.{Place, IsFirstClash}
use Rattle.dl_base.specs.Ontology.{Terminology}
use Rattle.dl_base.specs.Query.{Question}
use Rattle.dl_base.specs.Replies.{IsReply, Answers, Inconsistent}
use Rattle.dl_base.specs.Rows.{AreRows}
use Rattle.dl_base.specs.declared.clash.Clash.{Clash}
use Rattle.dl_base.specs.declared.concept.Role.{Role}
use Rattle.dl_base.specs.declared.row.NamedRow.{NamedRow}
use Rattle.dl_base.specs.declared.row.NamedChange.{NamedChange}
use Rattle.clash_report.specs.Report.{IsNamedClash}
use Rattle.gen_arena.specs.Store.{Names, next_handle, with_value, without}
use Rattle.gen_arena.specs.declared.handle.Handle.{Handle}
use Rattle.table_report.specs.TableLines.{AreTableLines}
use Rattle.base_store.specs.History.{History, AreRowsAfter, transaction_count, with_ontology, with_transaction}
use Rattle.reply_text.specs.declared.reply.Refusal.{Refusal}
use Rattle.reply_text.specs.declared.reply.Reply.{Reply}
use Rattle.reply_text.specs.declared.reply.Reply.TheVariants as reply
use Rattle.script_reader.specs.declared.command.Command.TheVariants as command
use Rattle.script_reader.specs.declared.request.Request.{Request}
use Rattle.script_reader.specs.declared.request.Request.TheVariants as request
use Rattle.base_engine.specs.State.{MachineState, IsBase, IsInitial, Raises, put_session}
use Rattle.base_engine.specs.Refusals.{IsRefusedFor, IsAccepted}

-- the strictly rising list of the rows of the one that the other hasn't got
pub record AreMissing (these those missing : List NamedRow) : Type 0 where
  pub rising : AreRows missing
  pub each : (r : NamedRow) → Contains missing r ↔ (Contains these r × (Contains those r → ⊥))

-- How many rows are in the later history and not in the earlier one, and how many the other way round.
pub record Counts (earlier later : History) (added removed : ℕ) : Type 0 where
  pub old : List NamedRow
  pub old_are : AreRowsAfter earlier old
  pub new : List NamedRow
  pub new_are : AreRowsAfter later new
  pub come : List NamedRow
  pub come_are : AreMissing new old come
  pub added_is : added ≡ length come
  pub gone : List NamedRow
  pub gone_are : AreMissing old new gone
  pub removed_is : removed ≡ length gone

-- The changes of the session become the next transaction, and the session is closed; the number is that of the transactions with
-- this one.
pub record Commits (s : MachineState) (k number added removed : ℕ) (t : MachineState) : Type 0 where
  pub changes : List NamedChange
  pub were : s.session k ≡ Some changes
  pub generation : Role → ℕ
  pub raises : Raises s.history (with_transaction changes s.history) s.generation generation
  pub state : t ≡ record (put_session k None s) { history = with_transaction changes s.history; generation = generation }
  pub number_is : number ≡ transaction_count t.history
  pub counts : Counts s.history t.history added removed

-- these changes with one more at their end
abbrev pub appended : List NamedChange → NamedChange → List NamedChange
appended changes change = changes ++ change ∷ []

-- The reply to a query in a state: its answers, or the first clash by names.
pub data IsReplyIn (s : MachineState) (q : Question) : Reply → Type 0 where
  answered : {keys : List (List (List ℕ))} (o : Terminology) (rows : List NamedRow) → IsBase s.history o rows → IsReply o rows q (Answers keys) → IsReplyIn s q (reply.Answers keys)
  clashes : {c : Clash} (o : Terminology) (rows : List NamedRow) (place : Place) → IsBase s.history o rows → IsReply o rows q (Inconsistent place) → IsNamedClash o place c
      → IsReplyIn s q (reply.Inconsistent c)

-- Of a request that is accepted: its reply, and the state behind it.
pub data Does (s : MachineState) : Request → Reply → MachineState → Type 0 where
  block : {o : Terminology} → Does s (request.Block (Ok o)) (reply.Loaded (length o.inclusions)) (record s { history = with_ontology o s.history; generation = λ r. 0 })
  begin : {k : ℕ} → Does s (request.Plain (command.Begin k)) reply.Done (put_session k (Some []) s)
  add : {k : ℕ} {r : NamedRow} (changes : List NamedChange) → s.session k ≡ Some changes
      → Does s (request.Plain (command.Add k r)) reply.Done (put_session k (Some (appended changes (record { add = true; row = r }))) s)
  del : {k : ℕ} {r : NamedRow} (changes : List NamedChange) → s.session k ≡ Some changes
      → Does s (request.Plain (command.Del k r)) reply.Done (put_session k (Some (appended changes (record { add = false; row = r }))) s)
  commit : {k number added removed : ℕ} {t : MachineState} → Commits s k number added removed t
      → Does s (request.Plain (command.Commit k)) (reply.Committed number added removed) t
  abort : {k : ℕ} → Does s (request.Plain (command.Abort k)) reply.Done (put_session k None s)
  ask : {q : Question} {r : Reply} → IsReplyIn s q r → Does s (request.Plain (command.Ask q)) r s
  prepare : {q : Question} → Does s (request.Plain (command.Prepare q)) (reply.Prepared (next_handle s.handles)) (record s { handles = with_value q s.handles })
  run : {h : Handle} {r : Reply} (q : Question) → Names s.handles h q → IsReplyIn s q r → Does s (request.Plain (command.Run h)) r s
  drop : {h : Handle} → Does s (request.Plain (command.Drop h)) reply.Done (record s { handles = without h s.handles })
  consistent : (o : Terminology) (rows : List NamedRow) → IsBase s.history o rows → IsFirstClash o rows None
      → Does s (request.Plain command.Check) reply.Consistent s
  inconsistent : {c : Clash} (o : Terminology) (rows : List NamedRow) (place : Place) → IsBase s.history o rows → IsFirstClash o rows (Some place)
      → IsNamedClash o place c → Does s (request.Plain command.Check) (reply.Inconsistent c) s
  tables : {lines : List (List ℕ)} (o : Terminology) (rows : List NamedRow) → IsBase s.history o rows → AreTableLines o rows s.generation lines
      → Does s (request.Plain command.Tables) (reply.Table lines) s
  tidy : Does s (request.Plain command.Tidy) reply.Done s
  reopen : {t : MachineState} → IsInitial s.history t → Does s (request.Plain command.Reopen) (reply.Reopened (transaction_count s.history)) t

-- One step: a refusal leaves the state as it was, and what no refusal holds of is done.
pub data StepsTo (s : MachineState) (q : Request) : Reply → MachineState → Type 0 where
  refused : {e : Refusal} → IsRefusedFor s q e → StepsTo s q (reply.Error e) s
  done : {r : Reply} {t : MachineState} → IsAccepted s q → Does s q r t → StepsTo s q r t

-- the replies to these requests in order, and the state behind them
abbrev pub AllStep : MachineState → List Request → List Reply → MachineState → Type 0
AllStep s [] replies t = (replies ≡ []) × (t ≡ s)
AllStep s (q ∷ qs) [] t = ⊥
AllStep s (q ∷ qs) (r ∷ rs) t = (next : MachineState) × StepsTo s q r next × AllStep next qs rs t

-- the replies of the machine that begins with this history, and the state behind them
pub record AreReplies (h : History) (requests : List Request) (replies : List Reply) (t : MachineState) : Type 0 where
  pub first : MachineState
  pub initial : IsInitial h first
  pub steps : AllStep first requests replies t
