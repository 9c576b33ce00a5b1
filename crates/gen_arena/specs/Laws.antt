-- What holds of handle stores, whatever is done to them.
use Rattle.std.specs.Prelude.{◌≡◌, ℕ, ◌+◌, ◌≤◌, List, All}
use Rattle.gen_arena.specs.declared.handle.Handle.{Handle}
use Rattle.gen_arena.specs.declared.handle.Gone.{Gone}
use Rattle.gen_arena.specs.Store.{HandleStore, IsHandleStore, IsGone, IsLive, Names, WasDropped, WasGiven, empty_store, next_handle, room_of, with_value, with_written, without}
use Rattle.gen_arena.specs.Changes.{Change, LeadsTo, AllLeadTo, LeavesAlone}

module _ (T : Type 0) where
  -- ---- what stores are

  -- a store without slots is one, and whatever is done to a store leaves one
  abbrev pub BeginsAsStore : Type 0
  BeginsAsStore = (limit : ℕ) → IsHandleStore (empty_store {T = T} limit)

  abbrev pub StaysAStore : Type 0
  StaysAStore = (s t : HandleStore T) (changes : List (Change T)) → IsHandleStore s → AllLeadTo s changes t → IsHandleStore t

  -- a value that comes in takes one place
  abbrev pub TakesRoom : Type 0
  TakesRoom = (s : HandleStore T) (v : T) → IsHandleStore s → 1 ≤ room_of s → room_of (with_value v s) + 1 ≡ room_of s

  -- ---- live handles

  -- a handle names one value
  abbrev pub NamesOne : Type 0
  NamesOne = (s : HandleStore T) (h : Handle) (v w : T) → Names s h v → Names s h w → v ≡ w

  -- a value that comes in is named by the next handle, and one that is written by the handle through which it is
  abbrev pub NamesInserted : Type 0
  NamesInserted = (s : HandleStore T) (v : T) → IsHandleStore s → Names (with_value v s) (next_handle s) v

  abbrev pub NamesWritten : Type 0
  NamesWritten = (s : HandleStore T) (h : Handle) (old v : T) → Names s h old → Names (with_written h v s) h v

  -- a live handle names its value until something is done through it
  abbrev pub NamesOn : Type 0
  NamesOn = (s t : HandleStore T) (changes : List (Change T)) (h : Handle) (v : T) → IsHandleStore s → AllLeadTo s changes t
      → All (LeavesAlone h) changes → Names s h v → Names t h v

  -- ---- dropped handles

  -- a handle is dropped where its value goes
  abbrev pub DropsRemoved : Type 0
  DropsRemoved = (s : HandleStore T) (h : Handle) (v : T) → IsHandleStore s → Names s h v → WasDropped (without h s) h

  -- a dropped handle stays dropped, and so never names a value again
  abbrev pub StaysDropped : Type 0
  StaysDropped = (s t : HandleStore T) (changes : List (Change T)) (h : Handle) → IsHandleStore s → AllLeadTo s changes t → WasDropped s h → WasDropped t h

  -- ---- handles that were never given

  -- the next handle was never given before
  abbrev pub GivesNewOnes : Type 0
  GivesNewOnes = (s : HandleStore T) → WasGiven s (next_handle s) → ⊥

  -- a live handle was given
  abbrev pub LiveWasGiven : Type 0
  LiveWasGiven = (s : HandleStore T) (h : Handle) → IsHandleStore s → IsLive s h → WasGiven s h

  -- a handle that was given stays so
  abbrev pub StaysGiven : Type 0
  StaysGiven = (s t : HandleStore T) (changes : List (Change T)) (h : Handle) → IsHandleStore s → AllLeadTo s changes t → WasGiven s h → WasGiven t h

  -- the only handle that is given by a change is the next one, where a value comes in
  abbrev pub GivesTheNext : Type 0
  GivesTheNext = (s t : HandleStore T) (change : Change T) (h : Handle) → IsHandleStore s → LeadsTo s change t → WasGiven t h → (WasGiven s h → ⊥) → h ≡ next_handle s

  -- ---- refusals

  -- a handle that is gone is so for one reason, and isn't live
  abbrev pub GoneOnce : Type 0
  GoneOnce = (s : HandleStore T) (h : Handle) (why other : Gone) → IsGone s h why → IsGone s h other → why ≡ other

  abbrev pub GoneIsNotLive : Type 0
  GoneIsNotLive = (s : HandleStore T) (h : Handle) (why : Gone) → IsHandleStore s → IsGone s h why → IsLive s h → ⊥
