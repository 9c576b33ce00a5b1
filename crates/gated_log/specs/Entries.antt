-- The grammar of an area: an open header gate and the header, entries behind open gates, a closed gate, and anything.
use Rattle.std.specs.Prelude.{◌≡◌, ◌≢◌, ◌≤◌, ◌+◌, ◌⊎◌, ℕ, List, [], ◌∷◌, ◌++◌, length, get_or, take, All}
use Rattle.area_layout.specs.Layout.{header_bytes, head_bytes}

pub record Entry : Type 0 where
  pub kind : ℕ
  pub payload : List ℕ

-- Which entries an area may hold: their kinds are 1 to the greatest, and no gate behind one stands past the limit.
pub record Bounds : Type 0 where
  pub greatest_kind : ℕ
  pub limit : ℕ

-- ontologies and transactions, and a limit
abbrev pub within : ℕ → Bounds
within limit = record { greatest_kind = 2; limit = limit }

pub record IsEntry (b : Bounds) (e : Entry) : Type 0 where
  pub least_kind : 1 ≤ e.kind
  pub greatest_kind : e.kind ≤ b.greatest_kind
  pub payload : length e.payload ≤ 8388608

-- what stands behind an entry's gate
abbrev pub body : Entry → List ℕ
body e = head_bytes (record { kind = e.kind; len = length e.payload }) ++ e.payload

-- open entries, one behind the other
abbrev pub spelling : List Entry → List ℕ
spelling [] = []
spelling (e ∷ es) = 1 ∷ body e ++ spelling es

-- an open header gate, and the header of version 1 and epoch 1
abbrev pub top : List ℕ
top = 1 ∷ header_bytes (record { version = 1; epoch = 1 })

-- the place of the gate behind these entries
abbrev pub gate_place : List Entry → ℕ
gate_place entries = 17 + length (spelling entries)

-- The gate behind the last entry is not past the limit, and so none is. Without entries the limit says nothing.
abbrev pub IsWithinLimit : ℕ → List Entry → Type 0
IsWithinLimit limit [] = Unit {0}
IsWithinLimit limit (e ∷ es) = gate_place (e ∷ es) ≤ limit

-- the area begins with the header and these entries, and this is the rest of it
pub record BeginsWithEntries (b : Bounds) (area : List ℕ) (entries : List Entry) (rest : List ℕ) : Type 0 where
  pub each : All (IsEntry b) entries
  pub fits : IsWithinLimit b.limit entries
  pub spelled : area ≡ top ++ spelling entries ++ rest

-- The area stands for these entries: behind them there is a closed gate, and anything behind it.
pub record Stands (b : Bounds) (area : List ℕ) (entries : List Entry) : Type 0 where
  pub gate : ℕ
  pub more : List ℕ
  pub closed : gate ≢ 1
  pub begins : BeginsWithEntries b area entries (gate ∷ more)

-- a fresh area has no byte or one, or its header gate is closed
abbrev pub IsFresh : List ℕ → Type 0
IsFresh area = (length area ≤ 1) ⊎ (get_or area 0 0 ≢ 1)

-- an open gate stands at this place, and no whole entry behind it
pub record IsBroken (b : Bounds) (gate : ℕ) (rest : List ℕ) : Type 0 where
  pub behind : List ℕ
  pub is_open : rest ≡ 1 ∷ behind
  pub not_whole : (e : Entry) (more : List ℕ) → IsEntry b e → gate + 6 + length e.payload ≤ b.limit → behind ≡ body e ++ more → ⊥

-- an area that is not fresh, and has no header of version 1 and epoch 1: it offends at place 0
pub record OffendsAtTop (area : List ℕ) (at : ℕ) : Type 0 where
  pub place : at ≡ 0
  pub not_fresh : IsFresh area → ⊥
  pub wrong : take 17 area ≢ top

-- Behind its whole entries the area ends with no gate, or an open entry is not whole: it offends at the place of that gate.
pub record OffendsBehind (b : Bounds) (area : List ℕ) (at : ℕ) : Type 0 where
  pub entries : List Entry
  pub rest : List ℕ
  pub begins : BeginsWithEntries b area entries rest
  pub place : at ≡ gate_place entries
  pub offence : (rest ≡ []) ⊎ IsBroken b at rest

-- the area neither is fresh nor stands for entries, and this is the place where it offends
abbrev pub OffendsAt : Bounds → List ℕ → ℕ → Type 0
OffendsAt b area at = OffendsAtTop area at ⊎ OffendsBehind b area at
