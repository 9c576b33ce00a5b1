-- Laws of an area: it is fresh, or stands for one list of entries, or offends at one place, and never two of these.
use Rattle.std.specs.Prelude.{◌≡◌, ◌⊎◌, ℕ, List}
use Rattle.gated_log.specs.Entries.{Bounds, BeginsWithEntries, Entry, IsFresh, OffendsAt, Stands}

abbrev pub StandsOnce : Type 0
StandsOnce = (b : Bounds) (area : List ℕ) (es fs : List Entry) → Stands b area es → Stands b area fs → es ≡ fs

abbrev pub StandsOrOffends : Type 0
StandsOrOffends = (b : Bounds) (area : List ℕ) (es : List Entry) (at : ℕ) → Stands b area es → OffendsAt b area at → ⊥

abbrev pub OffendsOnce : Type 0
OffendsOnce = (b : Bounds) (area : List ℕ) (at place : ℕ) → OffendsAt b area at → OffendsAt b area place → at ≡ place

-- an area that begins with a header, and so one that stands for entries, is not fresh
abbrev pub FreshHasNoHeader : Type 0
FreshHasNoHeader = (b : Bounds) (area : List ℕ) (es : List Entry) (rest : List ℕ) → BeginsWithEntries b area es rest → IsFresh area → ⊥

abbrev pub FreshNeverOffends : Type 0
FreshNeverOffends = (b : Bounds) (area : List ℕ) (at : ℕ) → OffendsAt b area at → IsFresh area → ⊥

-- every area, with whatever numbers in it
abbrev pub IsOneOfThree : Type 0
IsOneOfThree = (b : Bounds) (area : List ℕ) → IsFresh area ⊎ (((es : List Entry) × Stands b area es) ⊎ ((at : ℕ) × OffendsAt b area at))
