-- A run so far: what was replied, what is printed, and what a stop may have left.
use Rattle.std.specs.Prelude.{◌≡◌, ◌≢◌, ◌⊎◌, ◌≤◌, ℕ, List, [], ◌∷◌, ◌++◌, Option, Some, Result, Err, MatchResult}
use Rattle.std.specs.List.{flat_map}
use Rattle.host_io.specs.Causes.{Rose}
use Rattle.host_io.specs.Disk.{Disk}
use Rattle.host_io.specs.Moments.{Left, LeavesOnly}
use Rattle.base_store.specs.Area.{KeepsHistory}
use Rattle.base_store.specs.History.{History}
use Rattle.reply_text.specs.ReplyText.{text_of_reply}
use Rattle.reply_text.specs.declared.reply.Reply.{Reply}
use Rattle.script_reader.specs.declared.request.Request.{Request}
use Rattle.base_engine.specs.Calls.{HoldsAtRest, TouchesArea}
use Rattle.base_engine.specs.State.{MachineState}
use Rattle.base_engine.specs.Steps.{AreReplies, StepsTo}
use Rattle.base_engine.specs.declared.engine.EndFault.{EndFault}
use Rattle.base_engine.specs.declared.engine.EndFault.TheVariants as end
use Rattle.run_loop.specs.declared.fault.Fault.{Fault}
use Rattle.run_loop.specs.declared.fault.Fault.TheVariants as fault

-- the texts of replies, one behind the other
abbrev pub texts : List Reply → List ℕ
texts replies = flat_map text_of_reply replies

-- bytes that begin a text and aren't the whole of it
pub record IsProperFront (part whole : List ℕ) : Type 0 where
  pub more : List ℕ
  pub some : more ≢ []
  pub parts : whole ≡ part ++ more

-- what is fixed once a base is loaded: the history that the first area kept, the second area, and what was printed before
pub record Opening : Type 0 where
  pub history : History
  pub second : List ℕ
  pub before : List ℕ

-- these requests were replied to, the replies are printed whole, and nothing behind them
pub record ShowsReplies (a : Opening) (requests : List Request) (s : MachineState) (printed : Option (List ℕ)) : Type 0 where
  pub replies : List Reply
  pub machine : AreReplies a.history requests replies s
  pub now : printed ≡ Some (a.before ++ texts replies)

-- ---- what a stop leaves

-- The next request is under way: this much of its reply is printed, and the area keeps the history before it or behind it.
pub record IsUnderWay (s : MachineState) (rest : List Request) (part area : List ℕ) : Type 0 where
  pub request : Request
  pub more : List Request
  pub next : rest ≡ request ∷ more
  pub reply : Reply
  pub state : MachineState
  pub step : StepsTo s request reply state
  pub front : IsProperFront part (text_of_reply reply)
  pub area_keeps : KeepsHistory area s.history ⊎ KeepsHistory area state.history

-- A stop left this: the first of the requests were replied to, their replies are printed whole, and the area keeps the history
-- behind them; or the next one was under way.
pub record Stopped (a : Opening) (requests : List Request) (area printed : List ℕ) : Type 0 where
  pub replied : List Request
  pub rest : List Request
  pub parts : requests ≡ replied ++ rest
  pub replies : List Reply
  pub state : MachineState
  pub machine : AreReplies a.history replied replies state
  pub part : List ℕ
  pub shown : printed ≡ (a.before ++ texts replies) ++ part
  pub now : ((part ≡ []) × KeepsHistory area state.history) ⊎ IsUnderWay state rest part area

-- a stop before the first request: a state of the machine need not be there
pub record StopsAtOpening (a : Opening) (area printed : List ℕ) : Type 0 where
  pub shown : printed ≡ a.before
  pub keeps : KeepsHistory area a.history

abbrev pub HasLeft : Opening → List Request → Left → Type 0
HasLeft a requests left = (left.second ≡ a.second) × (StopsAtOpening a left.first left.printed ⊎ Stopped a requests left.first left.printed)

-- these requests were replied to, whole, and the disk keeps the history behind them
pub record AreReplied (a : Opening) (requests : List Request) (s : MachineState) (disk : Option Disk) (printed : Option (List ℕ)) : Type 0 where
  pub shows : ShowsReplies a requests s printed
  pub d : Disk
  pub told : disk ≡ Some d
  pub kept : HoldsAtRest d s.history
  pub other : d.second.reads ≡ a.second

-- ---- what a fault leaves

-- want of memory: the first of the requests were replied to, and the disk keeps the history behind them
pub record LeftByMemory (a : Opening) (requests : List Request) (disk : Option Disk) (printed : Option (List ℕ)) : Type 0 where
  pub first : List Request
  pub rest : List Request
  pub parts : requests ≡ first ++ rest
  pub state : MachineState
  pub replied : AreReplied a first state disk printed

-- printing failed: what is there is what a stop leaves
pub record LeftByPrint (a : Opening) (requests : List Request) (disk : Option Disk) (printed : Option (List ℕ)) : Type 0 where
  pub d : Disk
  pub told : disk ≡ Some d
  pub seen : List ℕ
  pub shown : printed ≡ Some seen
  pub stopped : Stopped a requests d.first.reads seen
  pub other : d.second.reads ≡ a.second

-- the disk failed at a request that touches the area, and all before it were replied to, whole
pub record LeftByDisk (a : Opening) (requests : List Request) (printed : Option (List ℕ)) : Type 0 where
  pub first : List Request
  pub request : Request
  pub parts : requests ≡ first ++ request ∷ []
  pub touches : TouchesArea request
  pub state : MachineState
  pub shows : ShowsReplies a first state printed

abbrev pub LeftBy : Fault → Opening → List Request → Option Disk → Option (List ℕ) → Type 0
LeftBy fault.Memory a requests disk printed = LeftByMemory a requests disk printed
LeftBy fault.Print a requests disk printed = LeftByPrint a requests disk printed
LeftBy fault.Disk a requests disk printed = LeftByDisk a requests printed
LeftBy (fault.Damaged area at) a requests disk printed = ⊥

-- the fault of a base that was given up
abbrev pub IsFaultOfEnd : EndFault → Fault → Type 0
IsFaultOfEnd end.DiskFault f = f ≡ fault.Disk
IsFaultOfEnd (end.Damaged area at) f = f ≡ fault.Damaged area at
IsFaultOfEnd end.NoMemory f = f ≡ fault.Memory

-- ---- the same of a host, since a start

module _ {H : Type 0} (disk : H → Option Disk) (printed : H → Option (List ℕ)) (clock : H → ℕ) (might : H → ℕ → Left → Type 0) (start : H) where
  -- so far these requests were replied to, and the machine is in this state
  pub record Serves (a : Opening) (requests : List Request) (s : MachineState) (host : H) : Type 0 where
    pub replied : AreReplied a requests s (disk host) (printed host)
    pub moments : LeavesOnly clock might start host (HasLeft a requests)

  -- the run ended within these requests
  pub record Ended (a : Opening) (requests : List Request) (f : Fault) (host : H) : Type 0 where
    pub left : LeftBy f a requests (disk host) (printed host)
    pub moments : LeavesOnly clock might start host (HasLeft a requests)

-- ---- causes

-- the counts haven't fallen, and a fault of the disk or of printing comes only where its count rose
pub record HasCauses {T : Type 0} (result : Result T Fault) (disk_before disk_now print_before print_now : ℕ) : Type 0 where
  pub disk_later : disk_before ≤ disk_now
  pub print_later : print_before ≤ print_now
  pub disk_fault : result ≡ Err fault.Disk → Rose disk_before disk_now
  pub print_fault : result ≡ Err fault.Print → Rose print_before print_now

-- a count of failures stands, unless the call ended by this fault
abbrev pub StaysUnless : {T : Type 0} → Fault → Result T Fault → ℕ → ℕ → Type 0
StaysUnless by result before now = MatchResult result (λ _. now ≡ before) (λ f. (f ≡ by) ⊎ (now ≡ before))
