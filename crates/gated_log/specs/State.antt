-- What contracts see of a log and of a reader, and how they stand to the first area.
use Rattle.std.specs.Prelude.{◌≡◌, ◌⊎◌, ◌+◌, ℕ, Bool, List, [], ◌∷◌, ◌++◌, length}
use Rattle.gated_log.specs.Entries.{Bounds, Entry, BeginsWithEntries, Stands, gate_place}

-- the place of a log's closed gate, and the limit of the gates behind its entries
pub record LogState : Type 0 where
  pub end : ℕ
  pub limit : ℕ

-- The place of the gate that a reader reads next, that of the last entry's gate, the limit, and whether the end was answered.
pub record LogReaderState : Type 0 where
  pub gate : ℕ
  pub last : ℕ
  pub limit : ℕ
  pub finished : Bool

-- the area stands for entries, with the closed gate behind them at this place
abbrev pub IsClosedAt : Bounds → ℕ → List ℕ → Type 0
IsClosedAt b end area = (entries : List Entry) × Stands b area entries × (gate_place entries ≡ end)

-- the area begins with entries, and the gate behind them stands at this place
abbrev pub IsBegun : Bounds → ℕ → List ℕ → Type 0
IsBegun b gate area = (entries : List Entry) × (rest : List ℕ) × BeginsWithEntries b area entries rest × (gate_place entries ≡ gate)

-- the new area stands for the entries of the old one and this one, behind whose payload the closed gate stands
abbrev pub Appended : Bounds → ℕ → Entry → List ℕ → List ℕ → Type 0
Appended b end entry old new = (entries : List Entry) → Stands b old entries → gate_place entries ≡ end
    → Stands b new (entries ++ entry ∷ []) × (gate_place (entries ++ entry ∷ []) ≡ end + 6 + length entry.payload)

-- a stop leaves the entries of the area from before, or these and this one
abbrev pub BeforeOrAfter : Bounds → ℕ → Entry → List ℕ → List ℕ → Type 0
BeforeOrAfter b end entry old left = (entries : List Entry) → Stands b old entries → gate_place entries ≡ end → Stands b left entries ⊎ Stands b left (entries ++ entry ∷ [])
