-- Laws of areas and histories.
use Rattle.std.specs.Prelude.{◌≡◌, ℕ, List}
use Rattle.gated_log.specs.Entries.{Entry, gate_place}
use Rattle.base_store.specs.History.{History, used}
use Rattle.base_store.specs.Legal.{Tells}
use Rattle.base_store.specs.Area.{IsDamaged, KeepsHistory}

abbrev pub KeepsOnce : Type 0
KeepsOnce = (area : List ℕ) (g h : History) → KeepsHistory area g → KeepsHistory area h → g ≡ h

abbrev pub KeepsOrIsDamaged : Type 0
KeepsOrIsDamaged = (area : List ℕ) (h : History) (at : ℕ) → KeepsHistory area h → IsDamaged area at → ⊥

abbrev pub DamagedOnce : Type 0
DamagedOnce = (area : List ℕ) (at place : ℕ) → IsDamaged area at → IsDamaged area place → at ≡ place

-- the closed gate behind the entries of a history stands where its used bytes end
abbrev pub GateStandsAtUsed : Type 0
GateStandsAtUsed = (es : List Entry) (h : History) → Tells es h → gate_place es ≡ used h
