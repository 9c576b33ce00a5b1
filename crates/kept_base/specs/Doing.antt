-- What the calls of a base do to it.
use Rattle.std.specs.Prelude.{◌≡◌, ◌+◌, ◌<◌, ℕ, List, length, true, false, Bool, Option, Some, MatchOption}
use Rattle.dl_base.specs.Ontology.{Terminology}
use Rattle.dl_base.specs.Query.{Question}
use Rattle.dl_base.specs.declared.row.NamedChange.{NamedChange}
use Rattle.dl_base.specs.declared.row.NamedRow.{NamedRow}
use Rattle.gen_arena.specs.Store.{HandleStore}
use Rattle.gen_arena.specs.declared.handle.Gone.{Gone}
use Rattle.gen_arena.specs.declared.handle.Gone.TheVariants as gone
use Rattle.dl_base.specs.Numbers.{IsNamedBy}
use Rattle.reply_text.specs.declared.reply.Refusal.{Refusal}
use Rattle.reply_text.specs.declared.reply.Refusal.TheVariants as refusal
use Rattle.reply_text.specs.declared.reply.Reply.{Reply}
use Rattle.script_reader.specs.declared.command.Command.{Command}
use Rattle.script_reader.specs.declared.command.Command.TheVariants as command
use Rattle.script_reader.specs.declared.request.Request.{Request}
use Rattle.kept_base.specs.Base.{BaseState, StandsForState, ontology_in}
use Rattle.base_engine.specs.Refusals.{IsAccepted, IsRefusedFor}
use Rattle.kept_base.specs.Sessions.{PutsSession, session_in}
use Rattle.base_engine.specs.State.{MachineState}
use Rattle.base_engine.specs.Steps.{StepsTo}

-- from each state that the old base stands for the request has this reply, and leads to a state that the new one stands for
abbrev pub BaseSteps : BaseState → Request → Reply → BaseState → Type 0
BaseSteps old q r new = (s : MachineState) → StandsForState old s → (t : MachineState) × StepsTo s q r t × StandsForState new t

-- in each state that the base stands for the request is refused for this, or accepted where there is nothing
abbrev pub DecidesRefusal : BaseState → Request → Option Refusal → Type 0
DecidesRefusal b q found = (s : MachineState) → StandsForState b s → MatchOption found (IsAccepted s q) (λ e. IsRefusedFor s q e)

-- the session becomes closed, or open with these changes, and all else stays; one command more changed the base
pub record PutsInBase (k : ℕ) (changes : Option (List NamedChange)) (old new : BaseState) : Type 0 where
  pub rest : new ≡ record old { sessions = new.sessions; steps = old.steps + 1 }
  pub session : PutsSession k changes old.sessions new.sessions

-- the prepared queries become these, and all else stays; one command more changed the base
abbrev pub ChangesHandles : HandleStore Question → BaseState → BaseState → Type 0
ChangesHandles handles old new = new ≡ record old { handles = handles; steps = old.steps + 1 }

-- the refusal of a handle that names nothing
abbrev pub refusal_of_gone : Gone → Refusal
refusal_of_gone gone.Never = refusal.NeverGiven
refusal_of_gone (gone.Dropped last) = refusal.Dropped last

-- the command that appends the change to the session
abbrev pub command_of_change : ℕ → NamedChange → Command
command_of_change k change = by change.add
  where
    by : Bool → Command
    by true = command.Add k change.row
    by false = command.Del k change.row

-- the session is open with fewer than 10,000 changes, and the ontology has the row's concept, or its role
pub record CanAppend (b : BaseState) (k : ℕ) (r : NamedRow) (changes : List NamedChange) : Type 0 where
  pub o : Terminology
  pub ontology_is : ontology_in b.reasoned ≡ Some o
  pub named : IsNamedBy o r
  pub were : session_in b.sessions k ≡ Some changes
  pub few : length changes < 10000
