-- How an area begins, and what stands at a gate.
use Rattle.std.specs.Prelude.{◌≡◌, ◌≢◌, ◌≤◌, ◌<◌, ◌+◌, ◌⊎◌, ℕ, Bool, true, false, List, [], ◌∷◌, length, get_or, take}
use Rattle.area_layout.specs.Layout.{head_bytes}
use Rattle.area_layout.specs.declared.entry_head.EntryHead.{EntryHead}
use Rattle.gated_log.specs.Entries.{Bounds, IsBroken, OffendsAtTop, top}
use Rattle.gated_log.specs.declared.front.Front.{Front}
use Rattle.gated_log.specs.declared.front.Front.TheVariants.{Short, Shut, Whole, Wrong}
use Rattle.gated_log.specs.declared.front.AtGate.{AtGate}
use Rattle.gated_log.specs.declared.front.AtGate.TheVariants.{Closed, Open, Broken}

-- the area has one byte at most; or its header gate is closed; or it has the header; or it offends there
abbrev pub IsFront : List ℕ → Front → Type 0
IsFront area Short = length area ≤ 1
IsFront area Shut = (2 ≤ length area) × (get_or area 0 0 ≢ 1)
IsFront area Whole = take 17 area ≡ top
IsFront area Wrong = OffendsAtTop area 0

-- the head is within the bounds, and so is the gate behind its payload
pub record IsHeadWithin (b : Bounds) (gate : ℕ) (h : EntryHead) : Type 0 where
  pub least_kind : 1 ≤ h.kind
  pub greatest_kind : h.kind ≤ b.greatest_kind
  pub payload : h.len ≤ 8388608
  pub fits : gate + 6 + h.len ≤ b.limit

abbrev pub IsBounded : Bounds → ℕ → AtGate → Type 0
IsBounded b gate Closed = Unit {0}
IsBounded b gate (Open h) = IsHeadWithin b gate h
IsBounded b gate Broken = Unit {0}

-- a gate is open, and this head stands behind it
pub record IsOpen (rest : List ℕ) (h : EntryHead) : Type 0 where
  pub behind : List ℕ
  pub is_open : rest ≡ 1 ∷ behind
  pub head : take 5 behind ≡ head_bytes h

-- what the rest of an area from this gate on begins with
abbrev pub IsAtGate : Bounds → ℕ → List ℕ → AtGate → Type 0
IsAtGate b gate rest Closed = (byte : ℕ) × (more : List ℕ) × (rest ≡ byte ∷ more) × (byte ≢ 1)
IsAtGate b gate rest (Open h) = IsOpen rest h
IsAtGate b gate rest Broken = (rest ≡ []) ⊎ IsBroken b gate rest

-- whether the bytes from a place on are enough for a payload, and then they are in the front of the buffer
abbrev pub HasPayload : List ℕ → ℕ → List ℕ → Bool → Type 0
HasPayload bytes len buffer true = (len ≤ length bytes) × (take len buffer ≡ take len bytes)
HasPayload bytes len buffer false = length bytes < len
