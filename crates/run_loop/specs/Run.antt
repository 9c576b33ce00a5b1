-- What one run reads and prints, what its area keeps, and what a stop may leave.
use Rattle.std.specs.Prelude.{◌≡◌, ◌⊎◌, ◌≤◌, ◌+◌, ℕ, List, [], ◌++◌, length, take, Option, Some, Bool, true, false}
use Rattle.host_io.specs.Disk.{Disk}
use Rattle.host_io.specs.Moments.{Left, LeavesOnly}
use Rattle.gated_log.specs.Stops.{LeavesImages}
use Rattle.base_store.specs.History.{History}
use Rattle.script_reader.specs.Requests.{AreRequests}
use Rattle.script_reader.specs.declared.request.Request.{Request}
use Rattle.base_engine.specs.Calls.{IsSynced, LeavesKept, StillKeeps}
use Rattle.base_engine.specs.State.{MachineState}
use Rattle.run_loop.specs.Serving.{HasLeft, LeftBy, Opening, AreReplied}
use Rattle.run_loop.specs.Taking.{EndedAt, StandFirst, TakesAllOf}
use Rattle.run_loop.specs.declared.ending.Ending.{Ending}
use Rattle.run_loop.specs.declared.ending.Ending.TheVariants as ending
use Rattle.run_loop.specs.declared.fault.Fault.{Fault}
use Rattle.run_loop.specs.declared.fault.Fault.TheVariants as fault

-- the most bytes of an input
abbrev pub input_limit : ℕ
input_limit = 67108864

-- All requests that are whole in these bytes were replied to, the replies are all that is printed, and the disk keeps the
-- history behind them.
pub record RepliedTo (a : Opening) (bytes : List ℕ) (ended : Bool) (disk : Option Disk) (printed : Option (List ℕ)) : Type 0 where
  pub requests : List Request
  pub are : AreRequests bytes ended requests
  pub state : MachineState
  pub replied : AreReplied a requests state disk printed

-- These requests stand first in what was read of an input. It has ended only where nothing of it is left.
pub record AreFirstRead (read rest : List ℕ) (requests : List Request) : Type 0 where
  pub ended : Bool
  pub at_end : ended ≡ true → rest ≡ []
  pub first : StandFirst read ended requests

-- the run ended at one of the requests
pub record Stops (f : Fault) (a : Opening) (read rest : List ℕ) (disk : Option Disk) (printed : Option (List ℕ)) : Type 0 where
  pub few : length read ≤ input_limit
  pub requests : List Request
  pub first : AreFirstRead read rest requests
  pub left : LeftBy f a requests disk printed

-- what each ending says of the bytes that were read, of what is printed and of what the disk keeps
abbrev pub Ends : Ending → Opening → List ℕ → List ℕ → Option Disk → Option (List ℕ) → Type 0
Ends ending.Done a read rest disk printed = (rest ≡ []) × (length read ≤ input_limit) × RepliedTo a read true disk printed
Ends ending.ReadFault a read rest disk printed = (length read ≤ input_limit) × RepliedTo a read false disk printed
Ends ending.InputTooLarge a read rest disk printed = (length read ≡ input_limit + 1) × RepliedTo a (take input_limit read) false disk printed
Ends ending.NoMemory a read rest disk printed = Stops fault.Memory a read rest disk printed
Ends ending.PrintFault a read rest disk printed = Stops fault.Print a read rest disk printed
Ends ending.DiskFault a read rest disk printed = Stops fault.Disk a read rest disk printed
Ends (ending.Damaged area at) a read rest disk printed = ⊥

-- so many bytes of the input were taken, and these are left
pub record HasTaken (input : List ℕ) (taken : ℕ) (left : Option (List ℕ)) : Type 0 where
  pub read : List ℕ
  pub rest : List ℕ
  pub parts : input ≡ read ++ rest
  pub is_left : left ≡ Some rest
  pub count : length read ≡ taken

-- How much of the input was taken, whatever host there is: at most the limit, but where too much came, and then one byte more; all
-- of it where the run is done.
pub record TakesInput (e : Ending) (input : List ℕ) (left : Option (List ℕ)) : Type 0 where
  pub taken : ℕ
  pub has : HasTaken input taken left
  pub large : e ≡ ending.InputTooLarge → taken ≡ input_limit + 1
  pub few : (e ≡ ending.InputTooLarge → ⊥) → taken ≤ input_limit
  pub all : e ≡ ending.Done → left ≡ Some []

-- a stop left the machine between two of the requests that were read, or at one
pub record MayBeLeft (a : Opening) (read rest : List ℕ) (left : Left) : Type 0 where
  pub requests : List Request
  pub first : AreFirstRead read rest requests
  pub has : HasLeft a requests left

module _ {H : Type 0} (disk : H → Option Disk) (printed : H → Option (List ℕ)) (clock : H → ℕ) (might : H → ℕ → Left → Type 0) where
  -- a front of the input was read, and the run over a base that is loaded ended so
  pub record Ran (a : Opening) (e : Ending) (input : List ℕ) (left : Option (List ℕ)) (start host : H) : Type 0 where
    pub read : List ℕ
    pub rest : List ℕ
    pub parts : input ≡ read ++ rest
    pub is_left : left ≡ Some rest
    pub ends : Ends e a read rest (disk host) (printed host)
    pub moments : LeavesOnly clock might start host (MayBeLeft a read rest)

  -- The base was loaded. Since the first sync each moment is one of the machine's; before it nothing was written or printed.
  pub record RanOpened (d : Disk) (h : History) (before : List ℕ) (e : Ending) (input : List ℕ) (left : Option (List ℕ)) (start host : H) : Type 0 where
    pub read : List ℕ
    pub rest : List ℕ
    pub parts : input ≡ read ++ rest
    pub is_left : left ≡ Some rest
    pub ends : Ends e (record { history = h; second = d.second.reads; before = before }) read rest (disk host) (printed host)
    pub earlier : LeavesOnly clock might start host (λ l. LeavesImages d (Some before) l ⊎ MayBeLeft (record { history = h; second = d.second.reads; before = before }) read rest l)
    pub since : ℕ
    pub later : clock start ≤ since
    pub past : since ≤ clock host
    pub moments : (l : Left) → might host since l → MayBeLeft (record { history = h; second = d.second.reads; before = before }) read rest l
    -- so is the end of the run: the next one begins with what the areas read as
    pub at_end : (now : Disk) → disk host ≡ Some now → (seen : List ℕ) → printed host ≡ Some seen
        → MayBeLeft (record { history = h; second = d.second.reads; before = before }) read rest (record { first = now.first.reads; second = now.second.reads; printed = seen })

  -- The base could not be loaded, for want of memory or by a fault of the disk: nothing was read or printed.
  pub record NotOpened (d : Disk) (h : History) (before : List ℕ) (e : Ending) (input : List ℕ) (left : Option (List ℕ)) (start host : H) : Type 0 where
    pub cause : (e ≡ ending.NoMemory) ⊎ (e ≡ ending.DiskFault)
    pub unread : left ≡ Some input
    pub unprinted : printed host ≡ Some before
    pub keeps : e ≡ ending.NoMemory → StillKeeps (disk host) h
    pub earlier : LeavesOnly clock might start host (λ l. LeavesImages d (Some before) l ⊎ LeavesKept h (Some before) d.second.reads l)
    pub synced : IsSynced clock might (Some before) d.second.reads h start host ⊎ LeavesOnly clock might start host (LeavesImages d (Some before))

-- all is printed, or a fault came, or memory was wanted
abbrev pub IsComplete : Ending → Type 0
IsComplete e = (e ≡ ending.Done) ⊎ (e ≡ ending.ReadFault) ⊎ (e ≡ ending.PrintFault) ⊎ (e ≡ ending.DiskFault) ⊎ (e ≡ ending.NoMemory)

-- ---- inside a run

-- the ending of a fault
abbrev pub IsEndingOf : Ending → Fault → Type 0
IsEndingOf e fault.Disk = e ≡ ending.DiskFault
IsEndingOf e fault.Print = e ≡ ending.PrintFault
IsEndingOf e fault.Memory = e ≡ ending.NoMemory
IsEndingOf e (fault.Damaged area at) = e ≡ ending.Damaged area at

module _ {H : Type 0} (disk : H → Option Disk) (printed : H → Option (List ℕ)) (clock : H → ℕ) (might : H → ℕ → Left → Type 0) (start : H) where
  -- the requests of a script that has ended were all replied to, or the run ended at one of them
  abbrev pub FinishesAs : Opening → List ℕ → Ending → H → Type 0
  FinishesAs a read e host = ((e ≡ ending.Done) × TakesAllOf disk printed clock might start a read true host)
      ⊎ ((f : Fault) × IsEndingOf e f × EndedAt disk printed clock might start a read true f host)
