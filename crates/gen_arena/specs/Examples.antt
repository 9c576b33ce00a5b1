-- Two values that come, go and make room for others, as laws.
use Rattle.std.specs.Prelude.{◌≡◌, ℕ, ◌-◌, [], ◌∷◌}
use Rattle.gen_arena.specs.declared.handle.Handle.{Handle}
use Rattle.gen_arena.specs.declared.handle.Gone.TheVariants.{Never, Dropped}
use Rattle.gen_arena.specs.Store.{HandleStore, IsGone, Names, empty_store, greatest, live, next_handle, room_of, with_value, without}

abbrev pub handle : ℕ → ℕ → Handle
handle slot generation = record { slot = slot; generation = generation }

-- there is room for two values; 7 comes, and then 8; 7 goes, and then 8
abbrev pub begun : HandleStore ℕ
begun = empty_store 2

abbrev pub half_filled : HandleStore ℕ
half_filled = with_value 7 begun

abbrev pub filled : HandleStore ℕ
filled = with_value 8 half_filled

abbrev pub emptied : HandleStore ℕ
emptied = without (handle 1 1) (without (handle 0 1) filled)

-- the slots are given in order, and each value is named by its handle
abbrev pub GivesInOrder : Type 0
GivesInOrder = (next_handle begun ≡ handle 0 1) × (next_handle half_filled ≡ handle 1 1) × Names filled (handle 0 1) 7 × Names filled (handle 1 1) 8 × (room_of filled ≡ 0)

-- the slot that was freed last is given first, each with its second generation
abbrev pub GivesLastFreedFirst : Type 0
GivesLastFreedFirst = (room_of emptied ≡ 2) × (next_handle emptied ≡ handle 1 2) × (next_handle (with_value 9 emptied) ≡ handle 0 2) × Names (with_value 9 emptied) (handle 1 2) 9

-- the dropped handles are told as such, also when their slot is given again; no others were given
abbrev pub TellsDropped : Type 0
TellsDropped = IsGone emptied (handle 0 1) (Dropped 1) × IsGone (with_value 9 emptied) (handle 1 1) (Dropped 2)

abbrev pub TellsNeverGiven : Type 0
TellsNeverGiven = IsGone emptied (handle 0 2) Never × IsGone emptied (handle 0 0) Never × IsGone emptied (handle 2 1) Never

-- one slot, whose value is the last but one, or the last, that can be there
abbrev pub last_but_one : HandleStore ℕ
last_but_one = record { limit = 1; slots = live (greatest - 1) 5 ∷ []; freed = [] }

abbrev pub last_one : HandleStore ℕ
last_one = record { limit = 1; slots = live greatest 5 ∷ []; freed = [] }

-- behind the last generation but one the slot is given once more, behind the greatest it isn't
abbrev pub EndsWithGreatest : Type 0
EndsWithGreatest = (next_handle (without (handle 0 (greatest - 1)) last_but_one) ≡ handle 0 greatest) × (room_of (without (handle 0 greatest) last_one) ≡ 0)
