-- What the calls of a base say of the disk, and what a stop inside them leaves.
use Rattle.std.specs.Prelude.{◌≡◌, ◌≢◌, ◌⊎◌, ℕ, List, Option, Some, None, Result}
use Rattle.std.specs.Option.{ForSome}
use Rattle.host_io.specs.Disk.{Disk, IsSettled}
use Rattle.host_io.specs.Moments.{IsShown, Left}
use Rattle.gated_log.specs.Stops.{LeavesImages, LeavesAtLast, LeavesThen}
use Rattle.base_store.specs.Area.{HoldsHistory, IsDamaged, KeepsHistory}
use Rattle.base_store.specs.History.{History}
use Rattle.reply_text.specs.declared.reply.Reply.{Reply}
use Rattle.script_reader.specs.declared.command.Command.{Command}
use Rattle.script_reader.specs.declared.command.Command.TheVariants as command
use Rattle.script_reader.specs.declared.request.Request.{Request}
use Rattle.script_reader.specs.declared.request.Request.TheVariants as request
use Rattle.base_engine.specs.State.{MachineState}
use Rattle.base_engine.specs.Steps.{StepsTo}

-- ---- the disk under a base

-- what a read gives is the only image, and the first area isn't fresh and holds the history
pub record HoldsAtRest (d : Disk) (h : History) : Type 0 where
  pub is_settled : IsSettled d
  pub held : HoldsHistory d.first.reads h

-- where the disk is told, it keeps the history
abbrev pub DiskKeeps : Option Disk → History → Type 0
DiskKeeps disk h = ForSome disk (λ d. HoldsAtRest d h)

-- where the disk is told, one of these states has a history that it keeps
abbrev pub HasKeptState : (MachineState → Type 0) → Option Disk → Type 0
HasKeptState stands disk = ForSome disk (λ d. (s : MachineState) × stands s × HoldsAtRest d s.history)

-- what is told stays told, and what isn't told stays untold
pub record StaysTold (old new : Option Disk) : Type 0 where
  pub told : (d : Disk) → old ≡ Some d → (e : Disk) × (new ≡ Some e)
  pub untold : old ≡ None → new ≡ None

-- of the second area a read gives what it gave
abbrev pub SecondStays : Option Disk → Option Disk → Type 0
SecondStays old new = ForSome old (λ d. ForSome new (λ e. e.second.reads ≡ d.second.reads))

-- of both areas a read gives what it gave
abbrev pub BothStay : Option Disk → Option Disk → Type 0
BothStay old new = ForSome old (λ d. ForSome new (λ e. (e.first.reads ≡ d.first.reads) × (e.second.reads ≡ d.second.reads)))

-- as a read gives it, the first area keeps the history
abbrev pub StillKeeps : Option Disk → History → Type 0
StillKeeps disk h = ForSome disk (λ d. KeepsHistory d.first.reads h)

-- this area, which is the first, keeps no history, and this is the place where it offends
pub record IsDamage (d : Disk) (area at : ℕ) : Type 0 where
  pub area_is : area ≡ 0
  pub offends : IsDamaged d.first.reads at

-- ---- moments

-- A stop inside a step: nothing is printed, the second area is as it was, and the first holds the history before the step, or behind it.
pub record StepLeaves (s : MachineState) (q : Request) (printed : Option (List ℕ)) (second : List ℕ) (left : Left) : Type 0 where
  pub area : HoldsHistory left.first s.history ⊎ ((r : Reply) × (t : MachineState) × StepsTo s q r t × HoldsHistory left.first t.history)
  pub other : left.second ≡ second
  pub output : IsShown printed left.printed

-- a stop while a base is loaded, once its areas are on the disk: the first area keeps the history
pub record LeavesKept (h : History) (printed : Option (List ℕ)) (second : List ℕ) (left : Left) : Type 0 where
  pub area : KeepsHistory left.first h
  pub other : left.second ≡ second
  pub output : IsShown printed left.printed

-- from some moment of the call on, that of its first sync, a stop leaves an area that keeps the history
abbrev pub IsSynced : {H : Type 0} → (H → ℕ) → (H → ℕ → Left → Type 0) → Option (List ℕ) → List ℕ → History → H → H → Type 0
IsSynced clock might printed second h old new = LeavesAtLast clock might (LeavesKept h printed second) old new

-- A base is loaded: until the first sync nothing is written, and from then on the first area keeps the history.
abbrev pub Loads : {H T E : Type 0} → (H → ℕ) → (H → ℕ → Left → Type 0) → Disk → Option (List ℕ) → History → Result T E → H → H → Type 0
Loads clock might d printed h result old new = LeavesThen clock might (LeavesImages d printed) (LeavesKept h printed d.second.reads) result old new

-- ---- requests

-- the request may change the history, or loads the base again
abbrev pub TouchesArea : Request → Type 0
TouchesArea (request.Plain c) = by c
  where
    by : Command → Type 0
    by command.Blank = ⊥
    by command.Ontology = ⊥
    by (command.Begin k) = ⊥
    by (command.Add k r) = ⊥
    by (command.Del k r) = ⊥
    by (command.Commit k) = Unit {0}
    by (command.Abort k) = ⊥
    by (command.Ask q) = ⊥
    by (command.Prepare q) = ⊥
    by (command.Run h) = ⊥
    by (command.Drop h) = ⊥
    by command.Check = ⊥
    by command.Tables = ⊥
    by command.Tidy = ⊥
    by command.Reopen = Unit {0}
TouchesArea (request.Block result) = Unit {0}
TouchesArea (request.Bad e) = ⊥

-- the request loads the base again
abbrev pub IsReopen : Request → Type 0
IsReopen q = q ≡ request.Plain command.Reopen

-- Where the request loads the base again, the disk is told. Over one that isn't told nothing says which history is found.
abbrev pub ReloadsWhatIsTold : Request → Option Disk → Type 0
ReloadsWhatIsTold q disk = IsReopen q → disk ≢ None
