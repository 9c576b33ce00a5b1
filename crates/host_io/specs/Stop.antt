-- One image of the disk for a stop inside a call, and what was printed before it.
use Rattle.std.specs.Prelude.{◌≡◌, ◌⊎◌, ◌≤◌, ◌<◌, ◌+◌, ℕ, List, [], ◌∷◌, length, get_or, min, max}
use Rattle.host_io.specs.Disk.{Area, Disk, IsOutside}
use Rattle.host_io.specs.Replay.{State, after}
use Rattle.host_io.specs.declared.areas.Areas.{Areas}
use Rattle.host_io.specs.declared.call.Call.{Call}
use Rattle.host_io.specs.declared.call.Call.TheVariants.{Quiet, Write, Cut, Sync, Print}
use Rattle.host_io.specs.declared.stop.Sketch.{Sketch}
use Rattle.host_io.specs.declared.stop.Sketches.{Sketches}

-- the place is in one of these ranges
abbrev pub IsTouched : List (ℕ × ℕ) → ℕ → Type 0
IsTouched [] i = ⊥
IsTouched (range ∷ ranges) i = ((range.0 ≤ i) × (i < range.1)) ⊎ IsTouched ranges i

-- The disk as a stop inside a call finds it: the range that a write or a cut is about to touch counts as touched.
abbrev pub found_inside : State → Call → Disk
found_inside s Quiet = s.disk
found_inside s (Write area at bytes done) = (after s (Write area at bytes done)).disk
found_inside s (Cut area len done) = (after s (Cut area len done)).disk
found_inside s (Sync done) = s.disk
found_inside s (Print bytes done) = s.disk

-- The bytes of the last sync, with the same byte in each range that was touched since and past their end. They are so many
-- more bytes than at that sync, but no more than the greatest length since.
pub record IsFilled (fill keep : ℕ) (area : Area) (bytes : List ℕ) : Type 0 where
  pub length_is : length bytes ≡ min (length area.synced + keep) area.greatest
  pub old : (i : ℕ) → i < length bytes → i < length area.synced → IsOutside area.touched i → get_or bytes i 0 ≡ get_or area.synced i 0
  pub touched : (i : ℕ) → i < length bytes → IsTouched area.touched i → get_or bytes i 0 ≡ fill
  pub behind : (i : ℕ) → i < length bytes → length area.synced ≤ i → get_or bytes i 0 ≡ fill

-- what a stop inside this call leaves, with this byte in what was touched and past the old end
pub record IsStop (s : State) (call : Call) (fill keep : ℕ) (areas : Areas) (printed : List ℕ) : Type 0 where
  pub first : IsFilled fill keep (found_inside s call).first areas.first
  pub second : IsFilled fill keep (found_inside s call).second areas.second
  pub output : printed ≡ s.printed

-- ---- while it is made

-- what is kept of an area: the bytes of the last sync with the same byte in what was touched since, and the greatest length
pub record IsSketch (fill : ℕ) (area : Area) (sketch : Sketch) : Type 0 where
  pub length_is : length sketch.image.items ≡ length area.synced
  pub old : (i : ℕ) → i < length area.synced → IsOutside area.touched i → get_or sketch.image.items i 0 ≡ get_or area.synced i 0
  pub touched : (i : ℕ) → i < length area.synced → IsTouched area.touched i → get_or sketch.image.items i 0 ≡ fill
  pub greatest_is : sketch.greatest ≡ area.greatest

-- what is kept of both
pub record AreSketches (fill : ℕ) (disk : Disk) (sketches : Sketches) : Type 0 where
  pub first : IsSketch fill disk.first sketches.first
  pub second : IsSketch fill disk.second sketches.second

-- the area b is a with one range more that was touched, and had this length as well
pub record IsTouch (from to len : ℕ) (a b : Area) : Type 0 where
  pub synced : b.synced ≡ a.synced
  pub touched : b.touched ≡ (from, to) ∷ a.touched
  pub greatest : b.greatest ≡ max a.greatest len
