-- A step that leaves the area alone, and one that hands on what a call did.
use Rattle.std.proofs.Common.{◌≡◌, Option, Some, None, refl, sym, subst}
use Rattle.std.specs.Option.{ForSome}
use Rattle.host_io.specs.Disk.{Disk}
use Rattle.base_store.specs.History.{History}
use Rattle.reply_text.specs.declared.reply.Refusal.{Refusal}
use Rattle.reply_text.specs.declared.reply.Reply.{Reply}
use Rattle.reply_text.specs.declared.reply.Reply.TheVariants as reply
use Rattle.script_reader.specs.declared.command.Command.TheVariants as command
use Rattle.script_reader.specs.declared.request.Request.{Request}
use Rattle.script_reader.specs.declared.request.Request.TheVariants as request
use Rattle.kept_base.specs.Base.{BaseState, StandsForState}
use Rattle.base_engine.specs.Calls.{DiskKeeps, HasKeptState, HoldsAtRest, ReloadsWhatIsTold, TouchesArea}
use Rattle.kept_base.specs.Doing.{BaseSteps}
use Rattle.base_engine.specs.State.{MachineState}
use Rattle.base_engine.specs.Steps.{StepsTo}
use Rattle.kept_base.proofs.DecidedRefusals.{refusal_steps}
use Rattle.base_engine.proofs.RefusalTable.{line_refusals}
use Rattle.base_engine.proofs.RunLemmas.{others_leave_history}

-- ---- lines that are refused by themselves

pub bad_steps : (b : BaseState) (e : Refusal) → BaseSteps b (request.Bad e) (reply.Error e) b
bad_steps b e = refusal_steps b (request.Bad e) e (λ s stands. line_refusals s e)

-- ---- the area is left alone

module _ (old new : BaseState) (disk : Option Disk) (q : Request) (r : Reply) (quiet : TouchesArea q → ⊥) (steps : BaseSteps old q r new) where
  pub quiet_steps : (s : MachineState) → StandsForState old s → DiskKeeps disk s.history → (t : MachineState) × StepsTo s q r t × StandsForState new t × DiskKeeps disk t.history
  quiet_steps s stands keeps =
      let x = steps s stands in
      (x.0, x.1, x.2, subst (λ (h : History). DiskKeeps disk h) (sym (others_leave_history s x.0 q r x.1 quiet)) keeps)

  pub quiet_ready : HasKeptState (StandsForState old) disk → HasKeptState (StandsForState new) disk
  quiet_ready kept d told =
      let s = kept d told in
      let x = steps s.0 s.1 in
      (x.0, x.2, subst (HoldsAtRest d) (sym (others_leave_history s.0 x.0 q r x.1 quiet)) s.2)

-- ---- a base that is loaded again

-- where the disk is told, the step of a base that is loaded again is one
pub reloaded_steps : (disk : Option Disk) (q : Request) (h : History) (P : Type 0) → q ≡ request.Plain command.Reopen → DiskKeeps disk h → ReloadsWhatIsTold q disk → ForSome disk (λ d. HoldsAtRest d h → P) → P
reloaded_steps None q h P is keeps reloads ok = absurd (reloads is refl)
reloaded_steps (Some d) q h P is keeps reloads ok = ok d refl (keeps d refl)
