-- What is done to a handle store, one thing after another.
use Rattle.std.specs.Prelude.{◌≡◌, ◌≢◌, ◌≤◌, List, [], ◌∷◌}
use Rattle.gen_arena.specs.declared.handle.Handle.{Handle}
use Rattle.gen_arena.specs.Store.{HandleStore, IsLive, room_of, with_value, with_written, without}

-- a value comes in, another value is written where a handle names one, or the value goes that a handle names
pub data Change (T : Type 0) : Type 0 where
  inserts : T → Change T
  writes : Handle → T → Change T
  removes : Handle → Change T

module _ {T : Type 0} where
  -- The change leads from one store to the other. A value comes in only where there is room, and a handle that is written through or
  -- removed is live.
  abbrev pub LeadsTo : HandleStore T → Change T → HandleStore T → Type 0
  LeadsTo s (inserts v) t = (1 ≤ room_of s) × (t ≡ with_value v s)
  LeadsTo s (writes h v) t = IsLive s h × (t ≡ with_written h v s)
  LeadsTo s (removes h) t = IsLive s h × (t ≡ without h s)

  -- the changes lead there in order
  abbrev pub AllLeadTo : HandleStore T → List (Change T) → HandleStore T → Type 0
  AllLeadTo s [] t = t ≡ s
  AllLeadTo s (c ∷ cs) t = (next : HandleStore T) × LeadsTo s c next × AllLeadTo next cs t

  -- the change is made through another handle, or through none
  abbrev pub LeavesAlone : Handle → Change T → Type 0
  LeavesAlone h (inserts v) = Unit {0}
  LeavesAlone h (writes other v) = other ≢ h
  LeavesAlone h (removes other) = other ≢ h
