-- Laws of the machine's steps.
use Rattle.std.specs.Prelude.{◌≡◌, ◌⊎◌, ℕ, List, All, Option, Some}
use Rattle.dl_base.specs.Clashes.{IsFirstClash, Place}
use Rattle.dl_base.specs.Ontology.{Terminology}
use Rattle.dl_base.specs.Query.{Question}
use Rattle.dl_base.specs.Replies.{IsReply, Replied}
use Rattle.dl_base.specs.declared.concept.Role.{Role}
use Rattle.dl_base.specs.declared.row.NamedChange.{NamedChange}
use Rattle.dl_base.specs.declared.row.NamedRow.{NamedRow}
use Rattle.gen_arena.specs.Store.{IsHandleStore, Names}
use Rattle.table_report.specs.TableLines.{AreTableLines}
use Rattle.base_store.specs.History.{History, with_transaction}
use Rattle.reply_text.specs.declared.reply.Refusal.{Refusal}
use Rattle.reply_text.specs.declared.reply.Reply.{Reply}
use Rattle.script_reader.specs.declared.command.Command.{Command}
use Rattle.script_reader.specs.declared.command.Command.TheVariants as command
use Rattle.script_reader.specs.declared.request.Request.{Request}
use Rattle.script_reader.specs.declared.request.Request.TheVariants as request
use Rattle.base_engine.specs.State.{MachineState, IsBase, IsInitial, IsWithinLimits, Raises}
use Rattle.base_engine.specs.Refusals.{IsRefusedFor, IsAccepted}
use Rattle.base_engine.specs.Requests.{IsGiven}
use Rattle.base_engine.specs.Steps.{StepsTo, AreReplies}

-- the machine begins with a history in one state
abbrev pub BeginsOnce : Type 0
BeginsOnce = (h : History) (s t : MachineState) → IsInitial h s → IsInitial h t → s ≡ t

-- each request is refused for one reason, or accepted, and never both
abbrev pub RefusedOnce : Type 0
RefusedOnce = (s : MachineState) (q : Request) (e f : Refusal) → IsRefusedFor s q e → IsRefusedFor s q f → e ≡ f

abbrev pub RefusedOrAccepted : Type 0
RefusedOrAccepted = (s : MachineState) (q : Request) → ((e : Refusal) × IsRefusedFor s q e) ⊎ IsAccepted s q

abbrev pub NeverBoth : Type 0
NeverBoth = (s : MachineState) (q : Request) (e : Refusal) → IsRefusedFor s q e → IsAccepted s q → ⊥

-- a step has one reply and leads to one state
abbrev pub StepsOnce : Type 0
StepsOnce = (s : MachineState) (q : Request) (one other : Reply) (t u : MachineState) → IsWithinLimits s.history → StepsTo s q one t → StepsTo s q other u → (one ≡ other) × (t ≡ u)

-- What nobody computes is there for the request: generations behind a commit, a reply to a query, a first clash or that there is
-- none, the lines of the tables, the state that a base begins with.
abbrev pub HasOutcome : MachineState → Request → Type 0
HasOutcome s (request.Plain c) = command_has c
  where
    command_has : Command → Type 0
    command_has command.Blank = Unit {0}
    command_has command.Ontology = Unit {0}
    command_has (command.Begin k) = Unit {0}
    command_has (command.Add k r) = Unit {0}
    command_has (command.Del k r) = Unit {0}
    command_has (command.Commit k) = (changes : List NamedChange) → s.session k ≡ Some changes → (generation : Role → ℕ) × Raises s.history (with_transaction changes s.history) s.generation generation
    command_has (command.Abort k) = Unit {0}
    command_has (command.Ask q) = (o : Terminology) (rows : List NamedRow) → IsBase s.history o rows → (r : Replied) × IsReply o rows q r
    command_has (command.Prepare q) = Unit {0}
    command_has (command.Run h) = (q : Question) (o : Terminology) (rows : List NamedRow) → Names s.handles h q → IsBase s.history o rows → (r : Replied) × IsReply o rows q r
    command_has (command.Drop h) = Unit {0}
    command_has command.Check = (o : Terminology) (rows : List NamedRow) → IsBase s.history o rows → (c : Option Place) × IsFirstClash o rows c
    command_has command.Tables = (o : Terminology) (rows : List NamedRow) → IsBase s.history o rows → (lines : List (List ℕ)) × AreTableLines o rows s.generation lines
    command_has command.Tidy = Unit {0}
    command_has command.Reopen = (t : MachineState) × IsInitial s.history t
HasOutcome s (request.Block result) = Unit {0}
HasOutcome s (request.Bad e) = Unit {0}

-- generations behind a commit, and the state that the machine begins with, are never lacking
abbrev pub GenerationsNeverLack : Type 0
GenerationsNeverLack = (earlier later : History) (before : Role → ℕ) → IsWithinLimits later → (((after : Role → ℕ) × Raises earlier later before after) → ⊥) → ⊥

abbrev pub BeginningNeverLacks : Type 0
BeginningNeverLacks = (h : History) → IsWithinLimits h → (((s : MachineState) × IsInitial h s) → ⊥) → ⊥

-- a request that the machine is given and that is accepted has a reply
abbrev pub AcceptedSteps : Type 0
AcceptedSteps = (s : MachineState) (q : Request) → IsGiven q → IsWithinLimits s.history → IsAccepted s q → HasOutcome s q → (r : Reply) × (t : MachineState) × StepsTo s q r t

-- a step leaves an ontology within the limits
abbrev pub StaysWithinLimits : Type 0
StaysWithinLimits = (s : MachineState) (q : Request) (r : Reply) (t : MachineState) → IsGiven q → IsWithinLimits s.history → StepsTo s q r t → IsWithinLimits t.history

-- a step leaves a handle store
abbrev pub HandlesStayAStore : Type 0
HandlesStayAStore = (s : MachineState) (q : Request) (r : Reply) (t : MachineState) → IsHandleStore s.handles → StepsTo s q r t → IsHandleStore t.handles

-- the replies to a list of requests are one list and lead to one state
abbrev pub AllRepliesOnce : Type 0
AllRepliesOnce = (h : History) (requests : List Request) (ones others : List Reply) (t u : MachineState) → IsWithinLimits h → All IsGiven requests
    → AreReplies h requests ones t → AreReplies h requests others u → (ones ≡ others) × (t ≡ u)
