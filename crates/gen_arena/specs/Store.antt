-- Stores of values behind handles.
use Rattle.std.specs.Prelude.{◌≡◌, ◌==◌, ℕ, ◌+◌, ◌-◌, ◌<◌, ◌≤◌, List, [], ◌∷◌, ◌++◌, length, take, drop, Contains, AllPairs, ◌≢◌, Option, Some, None, if◌then◌else◌, slice_index_or, refl}
use Rattle.std.specs.Coded.{Coded, code_by, coded×, coded_ℕ, coded_list, coded_option}
use Rattle.gen_arena.specs.declared.handle.Handle.{Handle}
use Rattle.gen_arena.specs.declared.handle.Gone.{Gone}
use Rattle.gen_arena.specs.declared.handle.Gone.TheVariants.{Never, Dropped}

-- a slot: its last generation, and while that one is live the value that it names
pub record Slot (T : Type 0) : Type 0 where
  pub last : ℕ
  pub held : Option T

-- A handle store: how many slots may be given, the slots that were given, and those of them that wait to be given again, the last
-- one that was freed at the end.
pub record HandleStore (T : Type 0) : Type 0 where
  pub limit : ℕ
  pub slots : List (Slot T)
  pub freed : List ℕ

-- a handle store, and how many more values surely find memory
pub record ReservedStore (T : Type 0) : Type 0 where
  pub store : HandleStore T
  pub spare : ℕ

-- the greatest generation that there is
abbrev pub greatest : ℕ
greatest = 18446744073709551615

-- the list with this at a place of it, or at the one behind its last
abbrev pub put_at : {X : Type 0} → List X → ℕ → X → List X
put_at xs k x = take k xs ++ x ∷ drop (k + 1) xs

-- the generation is one of those from 1 to the last
pub record IsUpTo (last generation : ℕ) : Type 0 where
  pub least : 1 ≤ generation
  pub most : generation ≤ last

module _ {T : Type 0} where
  -- ---- what is in a store

  -- a slot that was never given
  abbrev pub unused : Slot T
  unused = record { last = 0; held = None }

  -- the slot of this generation, live with the value
  abbrev pub live : ℕ → T → Slot T
  live generation v = record { last = generation; held = Some v }

  -- the slot of this generation, which isn't live any more
  abbrev pub spent : ℕ → Slot T
  spent generation = record { last = generation; held = None }

  -- what is in the slot of this number
  abbrev pub slot_at : HandleStore T → ℕ → Slot T
  slot_at s k = slice_index_or s.slots k unused

  -- the last generation that was given in the slot, 0 where none was
  abbrev pub last_of : HandleStore T → ℕ → ℕ
  last_of s k = (slot_at s k).last

  -- the handle is live and names the value
  abbrev pub Names : HandleStore T → Handle → T → Type 0
  Names s h v = slot_at s h.slot ≡ live h.generation v

  -- the handle names some value
  abbrev pub IsLive : HandleStore T → Handle → Type 0
  IsLive s h = (v : T) × Names s h v

  -- the handle was given: its slot was, and its generation is one of those from 1 to the slot's last
  abbrev pub WasGiven : HandleStore T → Handle → Type 0
  WasGiven s h = IsUpTo (last_of s h.slot) h.generation

  -- the handle was given and isn't live any more
  pub record WasDropped (s : HandleStore T) (h : Handle) : Type 0 where
    pub given : WasGiven s h
    pub not_live : IsLive s h → ⊥

  -- why the handle names nothing: it was never given, or it was dropped, and this is its slot's last generation
  abbrev pub IsGone : HandleStore T → Handle → Gone → Type 0
  IsGone s h Never = WasGiven s h → ⊥
  IsGone s h (Dropped last) = WasDropped s h × (last ≡ last_of s h.slot)

  -- how many more values find a slot: the freed slots, and those never given up to the limit
  abbrev pub room_of : HandleStore T → ℕ
  room_of s = length s.freed + (s.limit - length s.slots)

  -- the slot waits to be given again: it was given, isn't live, and its generation isn't the greatest
  pub record IsWaiting (s : HandleStore T) (k : ℕ) : Type 0 where
    pub given : k < length s.slots
    pub not_live : (slot_at s k).held ≡ None
    pub again : last_of s k < greatest

  -- No more slots are given than may be, each has a generation, no generation is above the greatest, and the freed slots are
  -- those that wait, each once.
  pub record IsHandleStore (s : HandleStore T) : Type 0 where
    pub within : length s.slots ≤ s.limit
    pub begun : (k : ℕ) → k < length s.slots → 1 ≤ last_of s k
    pub bounded : (k : ℕ) → last_of s k ≤ greatest
    pub waiting : (k : ℕ) → Contains s.freed k → IsWaiting s k
    pub none_lost : (k : ℕ) → IsWaiting s k → Contains s.freed k
    pub once : AllPairs (λ j k. j ≢ k) s.freed

  -- ---- what is done to a store

  -- no slot is given
  abbrev pub empty_store : ℕ → HandleStore T
  empty_store limit = record { limit = limit; slots = []; freed = [] }

  -- the slot that is given next: the last one that was freed, else the next new one
  abbrev pub next_slot : HandleStore T → ℕ
  next_slot s = slice_index_or s.freed (length s.freed - 1) (length s.slots)

  -- the handle that is given next: its generation is one more than the last of its slot
  abbrev pub next_handle : HandleStore T → Handle
  next_handle s = record { slot = next_slot s; generation = last_of s (next_slot s) + 1 }

  -- the store with the value, which the next handle names; its slot isn't among the freed ones any more
  abbrev pub with_value : T → HandleStore T → HandleStore T
  with_value v s = record {
    limit = s.limit;
    slots = put_at s.slots (next_slot s) (live (last_of s (next_slot s) + 1) v);
    freed = take (length s.freed - 1) s.freed;
  }

  -- the store in which the live handle names this value in place of its own
  abbrev pub with_written : Handle → T → HandleStore T → HandleStore T
  with_written h v s = record { limit = s.limit; slots = put_at s.slots h.slot (live h.generation v); freed = s.freed }

  -- The store without the value of the live handle. Its slot is the last freed one, unless its generation is the greatest.
  abbrev pub without : Handle → HandleStore T → HandleStore T
  without h s = record {
    limit = s.limit;
    slots = put_at s.slots h.slot (spent h.generation);
    freed = if h.generation == greatest then s.freed else (s.freed ++ h.slot ∷ []);
  }

  -- ---- how a store is kept in values of contracts

  abbrev pub slot_code : Coded T → Coded (Slot T)
  slot_code code =
      code_by
      (ℕ × Option T)
      (coded× coded_ℕ (coded_option code))
      (λ x. (x.last, x.held))
      (λ p. record { last = p.0; held = p.1 })
      (λ _. refl)

  abbrev pub store_code : Coded T → Coded (HandleStore T)
  store_code code =
      code_by
      (ℕ × (List (Slot T) × List ℕ))
      (coded× coded_ℕ (coded× (coded_list (slot_code code)) (coded_list coded_ℕ)))
      (λ s. (s.limit, (s.slots, s.freed)))
      (λ p. record { limit = p.0; slots = p.1.0; freed = p.1.1 })
      (λ _. refl)

  abbrev pub reserved_code : Coded T → Coded (ReservedStore T)
  reserved_code code =
      code_by
      (HandleStore T × ℕ)
      (coded× (store_code code) coded_ℕ)
      (λ r. (r.store, r.spare))
      (λ p. record { store = p.0; spare = p.1 })
      (λ _. refl)
