-- What a stop leaves while the first area is read, opened or written.
use Rattle.std.specs.Prelude.{◌≡◌, ◌⊎◌, ◌≤◌, ℕ, List, [], Option, Result, OnOk, OnErr}
use Rattle.host_io.specs.Disk.{Disk, IsImage}
use Rattle.host_io.specs.Moments.{Left, LeavesOnly, IsShown}
use Rattle.gated_log.specs.Entries.{Bounds, IsFresh, Stands}

-- of the first area a stop leaves what has P, and all else is as it was
pub record AtFirst (disk : Disk) (printed : Option (List ℕ)) (P : List ℕ → Type 0) (left : Left) : Type 0 where
  pub first : P left.first
  pub second : left.second ≡ disk.second.reads
  pub output : IsShown printed left.printed

-- the area is fresh, or stands for no entries
abbrev pub HoldsNothing : Bounds → List ℕ → Type 0
HoldsNothing b area = IsFresh area ⊎ Stands b area []

-- While an area is opened a stop leaves what it could have left before, and of a fresh area also one that holds nothing.
pub record AtOpening (b : Bounds) (disk : Disk) (printed : Option (List ℕ)) (left : Left) : Type 0 where
  pub first : IsImage disk.first left.first ⊎ (IsFresh disk.first.reads × HoldsNothing b left.first)
  pub second : IsImage disk.second left.second
  pub output : IsShown printed left.printed

-- before anything is written a stop leaves an image of each area
pub record LeavesImages (disk : Disk) (printed : Option (List ℕ)) (left : Left) : Type 0 where
  pub first : IsImage disk.first left.first
  pub second : IsImage disk.second left.second
  pub output : IsShown printed left.printed

-- what becomes of an area that is opened: it stays as it was, or it was fresh and holds nothing
abbrev pub IsOpening : Bounds → List ℕ → List ℕ → Type 0
IsOpening b old new = (new ≡ old) ⊎ (IsFresh old × HoldsNothing b new)

-- While the first area is opened, once both areas are on the disk, a stop leaves the second one as a read gives it.
abbrev pub WhileOpened : Bounds → Disk → Option (List ℕ) → Left → Type 0
WhileOpened b disk printed left = AtFirst disk printed (IsOpening b disk.first.reads) left

-- since some moment of a call a stop leaves what has P
pub record LeavesAtLast {H : Type 0} (clock : H → ℕ) (might : H → ℕ → Left → Type 0) (P : Left → Type 0) (old new : H) : Type 0 where
  pub since : ℕ
  pub later : clock old ≤ since
  pub past : since ≤ clock new
  pub each : (left : Left) → might new since left → P left

-- Until some moment of a call a stop leaves what has P, and from then on what has Q. A call that failed need not have come to that moment.
pub record LeavesThen {H T E : Type 0} (clock : H → ℕ) (might : H → ℕ → Left → Type 0) (P Q : Left → Type 0) (result : Result T E) (old new : H) : Type 0 where
  pub moments : LeavesOnly clock might old new (λ left. P left ⊎ Q left)
  pub synced : OnOk result (LeavesAtLast clock might Q old new)
  pub or_not : OnErr result (LeavesAtLast clock might Q old new ⊎ LeavesOnly clock might old new P)
