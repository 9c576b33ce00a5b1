-- What a stop at some moment may leave. Disk and output have one clock, which counts the calls on a host.
use Rattle.std.specs.Prelude.{◌≡◌, ◌⊎◌, ◌≤◌, ℕ, List, Option, Some, Result, OnOk, OnErr}
use Rattle.host_io.specs.Causes.{raised, Rose}
use Rattle.host_io.specs.Disk.{Disk, IsImage}
use Rattle.host_io.specs.Host.{ShowsFront}

-- what a stop leaves: both areas, and what was printed
pub record Left : Type 0 where
  pub first : List ℕ
  pub second : List ℕ
  pub printed : List ℕ

-- all of what was printed, where that is told
abbrev pub IsShown : Option (List ℕ) → List ℕ → Type 0
IsShown printed seen = (before : List ℕ) → printed ≡ Some before → seen ≡ before

-- what was printed, where that is told, and some front of these bytes
abbrev pub IsShowing : Option (List ℕ) → List ℕ → List ℕ → Type 0
IsShowing printed bytes seen = (before : List ℕ) → printed ≡ Some before → ShowsFront before bytes (Some seen)

-- A stop in this state of the disk may leave this: of each area an image, where the areas are told.
pub record Leaves (disk : Option Disk) (shown : List ℕ → Type 0) (left : Left) : Type 0 where
  pub areas : (d : Disk) → disk ≡ Some d → IsImage d.first left.first × IsImage d.second left.second
  pub output : shown left.printed

-- Time goes on: a stop since some moment might have left what it might have left before, or what it may leave in
-- between, and nothing else; and what it might have left before it might have left still.
pub record Elapses (before now : ℕ) (past since : ℕ → Left → Type 0) (between : Left → Type 0) : Type 0 where
  pub later : before ≤ now
  pub nothing_else : (moment : ℕ) (left : Left) → moment ≤ before → since moment left → past moment left ⊎ between left
  pub keeps : (moment : ℕ) (left : Left) → moment ≤ before → past moment left → since moment left

-- There was no call, since it found no memory: the clock stands, the count of such calls rose, and the disk, what was
-- printed and what a stop might have left are as they were.
pub record IsNoCall {H : Type 0} (clock lacked : H → ℕ) (disk : H → Option Disk) (printed : H → Option (List ℕ)) (might : H → ℕ → Left → Type 0) (old new : H) : Type 0 where
  pub clock_stands : clock new ≡ clock old
  pub lack : Rose (lacked old) (lacked new)
  pub disk_stays : disk new ≡ disk old
  pub printed_stays : printed new ≡ printed old
  pub no_moment : (moment : ℕ) (left : Left) → might new moment left → might old moment left

-- A call raises the clock. Only one that failed may have been no call.
pub record Ticks {T E : Type 0} (before now : ℕ) (no_call : Type 0) (result : Result T E) : Type 0 where
  pub ok : OnOk result (now ≡ raised before)
  pub err : OnErr result ((now ≡ raised before) ⊎ no_call)

-- A stop at any moment since the old host leaves what has P.
pub record LeavesOnly {H : Type 0} (clock : H → ℕ) (might : H → ℕ → Left → Type 0) (old new : H) (P : Left → Type 0) : Type 0 where
  pub later : clock old ≤ clock new
  pub each : (left : Left) → might new (clock old) left → P left
  -- what a stop since an earlier moment might have left
  pub before : (moment : ℕ) (left : Left) → moment ≤ clock old → might new moment left → might old moment left ⊎ P left

-- what a stop might leave of a host that tells nothing: anything
abbrev pub anything : ℕ → Left → Type 0
anything moment left = Unit {0}
