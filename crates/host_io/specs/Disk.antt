-- The disk: what a read of an area gives, and what a stop may leave of it.
use Rattle.std.specs.Prelude.{◌≡◌, ◌⊎◌, ◌==◌, ◌<◌, ◌≤◌, ◌+◌, ℕ, List, [], ◌∷◌, ◌++◌, length, get_or, take, drop, min, max, if◌then◌else◌, Option, Some, None, Result, OnOk, OnErr}

-- One area: what a read gives, the bytes at the last sync that succeeded, the ranges that were touched since, each
-- from its first byte to the one behind its last, and the least and the greatest length since.
pub record Area : Type 0 where
  pub reads : List ℕ
  pub synced : List ℕ
  pub touched : List (ℕ × ℕ)
  pub least : ℕ
  pub greatest : ℕ

-- the place is in none of these ranges
abbrev pub IsOutside : List (ℕ × ℕ) → ℕ → Type 0
IsOutside [] i = Unit {0}
IsOutside (range ∷ ranges) i = ((i < range.0) ⊎ (range.1 ≤ i)) × IsOutside ranges i

-- What a stop may leave: any length from the least to the greatest, the bytes of the last sync outside of what was
-- touched, and any bytes in it.
pub record IsImage (area : Area) (bytes : List ℕ) : Type 0 where
  pub no_shorter : area.least ≤ length bytes
  pub no_longer : length bytes ≤ area.greatest
  pub outside : (i : ℕ) → i < length bytes → IsOutside area.touched i → get_or bytes i 0 ≡ get_or area.synced i 0

-- an area whose bytes are all on the disk
abbrev pub at_rest : List ℕ → Area
at_rest bytes = record { reads = bytes; synced = bytes; touched = []; least = length bytes; greatest = length bytes }

-- the bytes at this place, over what is there and past the end
abbrev pub put : ℕ → List ℕ → List ℕ → List ℕ
put at bytes old = take at old ++ bytes ++ drop (at + length bytes) old

-- an area of which n bytes from a place on were touched, and which now reads so
abbrev pub touch : ℕ → ℕ → List ℕ → Area → Area
touch at n reads old = record { reads = reads; synced = old.synced; touched = (at, at + n) ∷ old.touched; least = old.least; greatest = max old.greatest (at + n) }

-- what a write of n bytes that was cut short may leave: the bytes outside of the range as they were, and any length between
pub record IsTorn (at n : ℕ) (old new : List ℕ) : Type 0 where
  pub before : take at new ≡ take at old
  pub after : drop (at + n) new ≡ drop (at + n) old
  pub no_shorter : length old ≤ length new
  pub no_longer : length new ≤ max (length old) (at + n)

-- a write that failed on the way
pub record TornWrite (at n : ℕ) (old new : Area) : Type 0 where
  pub disk : new ≡ touch at n new.reads old
  pub torn : IsTorn at n old.reads new.reads

-- A write at a place. One that failed did nothing, or was torn.
pub record Writes {T E : Type 0} (at : ℕ) (bytes : List ℕ) (result : Result T E) (old new : Area) : Type 0 where
  pub ok : OnOk result (new ≡ touch at (length bytes) (put at bytes old.reads) old)
  pub err : OnErr result ((new ≡ old) ⊎ TornWrite at (length bytes) old new)

-- an area that was cut to n bytes, and now reads so
abbrev pub shorten : ℕ → List ℕ → Area → Area
shorten n reads old = record { reads = reads; synced = old.synced; touched = (n, length old.reads) ∷ old.touched; least = min old.least n; greatest = old.greatest }

-- a cut that failed on the way
pub record TornCut (n : ℕ) (old new : Area) : Type 0 where
  pub disk : new ≡ shorten n new.reads old
  pub before : take n new.reads ≡ take n old.reads
  pub no_shorter : n ≤ length new.reads
  pub no_longer : length new.reads ≤ length old.reads

-- A cut to n bytes. One that failed did nothing, or was torn.
pub record Cuts {T E : Type 0} (n : ℕ) (result : Result T E) (old new : Area) : Type 0 where
  pub ok : OnOk result (new ≡ shorten n (take n old.reads) old)
  pub err : OnErr result ((new ≡ old) ⊎ TornCut n old new)

-- both areas
pub record Disk : Type 0 where
  pub first : Area
  pub second : Area

-- area 0 or 1
abbrev pub area_of : Disk → ℕ → Area
area_of disk number = if number == 0 then disk.first else disk.second

-- the disk with another area in the place of one
abbrev pub with_area : Disk → ℕ → Area → Disk
with_area disk number area = if number == 0 then (record disk { first = area }) else (record disk { second = area })

-- one area takes a step, and the other stays as it was
pub record OnArea (number : ℕ) (step : Area → Area → Type 0) (old new : Disk) : Type 0 where
  pub changed : step (area_of old number) (area_of new number)
  pub other : new ≡ with_area old number (area_of new number)

-- the disk once all that a read gives is on it
abbrev pub settled : Disk → Disk
settled disk = record { first = at_rest disk.first.reads; second = at_rest disk.second.reads }

-- A sync covers both areas. One that failed did nothing.
pub record Syncs {T E : Type 0} (result : Result T E) (old new : Disk) : Type 0 where
  pub ok : OnOk result (new ≡ settled old)
  pub err : OnErr result (new ≡ old)

-- what a read gives of an area is its only image
pub record IsSettled (disk : Disk) : Type 0 where
  pub first : disk.first ≡ at_rest disk.first.reads
  pub second : disk.second ≡ at_rest disk.second.reads

-- what is told takes a step and stays told, and what isn't told stays untold
pub record TakesStep (step : Disk → Disk → Type 0) (old new : Option Disk) : Type 0 where
  pub told : (d : Disk) → old ≡ Some d → (e : Disk) × (new ≡ Some e) × step d e
  pub untold : old ≡ None → new ≡ None

-- the front of the buffer holds the bytes from a place on, as many as stand there and go into it
pub record IsCopy (bytes : List ℕ) (at count : ℕ) (buffer : List ℕ) : Type 0 where
  pub front : take count buffer ≡ take count (drop at bytes)
  pub count_is : count ≡ min (length buffer) (length (drop at bytes))
