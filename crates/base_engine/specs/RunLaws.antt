-- Laws of steps that follow each other, which a run over a base stands on.
use Rattle.std.specs.Prelude.{◌≡◌, ℕ, ◌<◌, List, [], ◌∷◌, ◌++◌, length, All, None}
use Rattle.base_store.specs.History.{History}
use Rattle.reply_text.specs.ReplyText.{IsAcknowledgement}
use Rattle.reply_text.specs.declared.reply.Reply.{Reply}
use Rattle.script_reader.specs.declared.request.Request.{Request}
use Rattle.base_engine.specs.Calls.{TouchesArea}
use Rattle.base_engine.specs.Requests.{IsGiven}
use Rattle.base_engine.specs.State.{MachineState}
use Rattle.base_engine.specs.Steps.{AllStep, AreReplies, StepsTo}

-- one request more
abbrev pub StepsGoOn : Type 0
StepsGoOn = (s t u : MachineState) (requests : List Request) (replies : List Reply) (q : Request) (r : Reply) → AllStep s requests replies t → StepsTo t q r u
    → AllStep s (requests ++ q ∷ []) (replies ++ r ∷ []) u

-- each request has one reply
abbrev pub AsManyReplies : Type 0
AsManyReplies = (s t : MachineState) (requests : List Request) (replies : List Reply) → AllStep s requests replies t → length replies ≡ length requests

-- a step whose reply doesn't tell that something was done leaves the history as it was
abbrev pub OtherRepliesLeaveHistory : Type 0
OtherRepliesLeaveHistory = (s t : MachineState) (q : Request) (r : Reply) → StepsTo s q r t → (IsAcknowledgement r → ⊥) → t.history ≡ s.history

-- a request that is no block, no `commit` and no `reopen` leaves the history as it was
abbrev pub OthersLeaveHistory : Type 0
OthersLeaveHistory = (s t : MachineState) (q : Request) (r : Reply) → StepsTo s q r t → (TouchesArea q → ⊥) → t.history ≡ s.history

-- no session above 15 is ever open
abbrev pub NoneOpenAbove : Type 0
NoneOpenAbove = (h : History) (requests : List Request) (replies : List Reply) (t : MachineState) (k : ℕ) → All IsGiven requests → AreReplies h requests replies t → 15 < k → t.session k ≡ None
