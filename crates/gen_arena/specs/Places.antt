-- How an arena keeps its slots. No public clause cites this module.
use Rattle.std.specs.Prelude.{◌≡◌, ℕ, ◌+◌, ◌-◌, ◌≤◌, List, length, map, min, Some, None, slice_index_or}
use Rattle.std.specs.Option.{option_and_then}
use Rattle.slab.specs.Slab.{Slab, ContainsKey, get, slab_len}
use Rattle.gen_arena.specs.declared.handle.Handle.{Handle}
use Rattle.gen_arena.specs.declared.handle.Gone.{Gone}
use Rattle.gen_arena.specs.declared.handle.Gone.TheVariants.{Never, Dropped}
use Rattle.gen_arena.specs.declared.places.Place.{Place}
use Rattle.gen_arena.specs.Store.{HandleStore, IsHandleStore, IsUpTo, Slot}

-- a slot that was never given
abbrev pub unplaced : Place
unplaced = record { generation = 0; key = None }

-- what is kept of the slot of this number
abbrev pub place_at : List Place → ℕ → Place
place_at places k = slice_index_or places k unplaced

-- the value of the slot's last generation is under this key
abbrev pub keyed : ℕ → ℕ → Place
keyed generation key = record { generation = generation; key = Some key }

-- why the handle names nothing, where this is kept of its slot
abbrev pub IsGoneAt : Place → Handle → Gone → Type 0
IsGoneAt p h Never = IsUpTo p.generation h.generation → ⊥
IsGoneAt p h (Dropped last) = IsUpTo p.generation h.generation × ((key : ℕ) → p ≡ keyed h.generation key → ⊥) × (last ≡ p.generation)

-- the slot that is given next: the last one that was freed, else the next new one
abbrev pub next_of : List Place → List ℕ → ℕ
next_of places freed = slice_index_or freed (length freed - 1) (length places)

-- how many more slots can be given where there is room for so many
abbrev pub slots_left : List Place → List ℕ → ℕ → ℕ
slots_left places freed room = length freed + (room - length places)

module _ {T : Type 0} where
  -- the slot as contracts see it
  abbrev pub seen : Slab T → Place → Slot T
  seen values p = record { last = p.generation; held = option_and_then (get values) p.key }

  -- the store that an arena stands for
  abbrev pub store_of : ℕ → List Place → List ℕ → Slab T → HandleStore T
  store_of limit places freed values = record { limit = limit; slots = map (seen values) places; freed = freed }

  -- for how many more values there is memory: in the slab, and among the slots
  abbrev pub spare_of : List Place → List ℕ → Slab T → ℕ → ℕ
  spare_of places freed values room = min (values.capacity - slab_len values) (slots_left places freed room)

  -- Each key that a slot has is one of the slab's, no two slots have the same, and the slots stand for a handle store.
  pub record IsArranged (limit : ℕ) (places : List Place) (freed : List ℕ) (values : Slab T) : Type 0 where
    pub store : IsHandleStore (store_of limit places freed values)
    pub counted : length freed + slab_len values ≤ length places
    pub kept : (k key : ℕ) → (place_at places k).key ≡ Some key → ContainsKey values key
    pub apart : (j k key : ℕ) → (place_at places j).key ≡ Some key → (place_at places k).key ≡ Some key → j ≡ k
