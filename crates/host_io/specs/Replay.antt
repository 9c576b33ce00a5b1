-- What a host in memory went through, by the list of its calls.
use Rattle.std.specs.Prelude.{◌≡◌, ◌⊎◌, ℕ, zero, suc, Bool, List, [], ◌∷◌, ◌++◌, length, take, min, if◌then◌else◌}
use Rattle.host_io.specs.Disk.{Area, Disk, IsImage, at_rest, settled, put, touch, shorten, area_of, with_area}
use Rattle.host_io.specs.Host.{ShowsFront}
use Rattle.host_io.specs.Moments.{Left}
use Rattle.host_io.specs.declared.areas.Areas.{Areas}
use Rattle.host_io.specs.declared.call.Call.{Call}
use Rattle.host_io.specs.declared.call.Call.TheVariants.{Quiet, Write, Cut, Sync, Print}
use Rattle.std.specs.Prelude.{Some}

-- the disk, and what was printed
pub record State : Type 0 where
  pub disk : Disk
  pub printed : List ℕ

-- before the first call both areas are on the disk, and nothing was printed
abbrev pub begin : Areas → State
begin areas = record { disk = record { first = at_rest areas.first; second = at_rest areas.second }; printed = [] }

-- An area after a write. One that wasn't done touched its range and changed nothing. No call has a place past the end; such
-- a place would count as the end.
abbrev pub written : Bool → ℕ → List ℕ → Area → Area
written done at bytes area = let place = min at (length area.reads) in touch place (length bytes) (if done then put place bytes area.reads else area.reads) area

-- An area after a cut. One that wasn't done touched its range and changed nothing.
abbrev pub cut_to : Bool → ℕ → Area → Area
cut_to done len area = shorten len (if done then take len area.reads else area.reads) area

-- what a call leaves
abbrev pub after : State → Call → State
after s Quiet = s
after s (Write area at bytes done) = record { disk = with_area s.disk area (written done at bytes (area_of s.disk area)); printed = s.printed }
after s (Cut area len done) = record { disk = with_area s.disk area (cut_to done len (area_of s.disk area)); printed = s.printed }
after s (Sync done) = record { disk = if done then settled s.disk else s.disk; printed = s.printed }
after s (Print bytes done) = record { disk = s.disk; printed = if done then s.printed ++ bytes else s.printed }

-- what these calls leave, one after the other
abbrev pub replay : State → List Call → State
replay s [] = s
replay s (call ∷ calls) = replay (after s call) calls

-- a stop leaves an image of each area
pub record AreImages (disk : Disk) (left : Left) : Type 0 where
  pub first : IsImage disk.first left.first
  pub second : IsImage disk.second left.second

-- a stop in this state may leave this
pub record LeavesNow (s : State) (left : Left) : Type 0 where
  pub images : AreImages s.disk left
  pub output : left.printed ≡ s.printed

-- a stop inside a print of these bytes may leave this
pub record LeavesInPrint (s : State) (bytes : List ℕ) (left : Left) : Type 0 where
  pub images : AreImages s.disk left
  pub output : ShowsFront s.printed bytes (Some left.printed)

-- A stop inside a call may leave this. The range that a write or a cut is about to touch counts as touched; a sync hasn't
-- succeeded yet; of a print some front is shown.
abbrev pub LeavesInside : State → Call → Left → Type 0
LeavesInside s Quiet left = LeavesNow s left
LeavesInside s (Write area at bytes done) left = LeavesNow (after s (Write area at bytes done)) left
LeavesInside s (Cut area len done) left = LeavesNow (after s (Cut area len done)) left
LeavesInside s (Sync done) left = LeavesNow s left
LeavesInside s (Print bytes done) left = LeavesInPrint s bytes left

-- a stop inside one of the calls behind so many may leave this
abbrev pub LeavesSince : ℕ → State → List Call → Left → Type 0
LeavesSince passed s [] left = ⊥
LeavesSince zero s (call ∷ calls) left = LeavesInside s call left ⊎ LeavesSince zero (after s call) calls left
LeavesSince (suc passed) s (call ∷ calls) left = LeavesSince passed (after s call) calls left

-- at some moment since there were so many calls a stop could have left this
abbrev pub MightLeave : State → List Call → ℕ → Left → Type 0
MightLeave s calls passed left = LeavesNow (replay s calls) left ⊎ LeavesSince passed s calls left
