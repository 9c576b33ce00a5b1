-- Which areas keep a history, and where one that keeps none offends.
use Rattle.std.specs.Prelude.{◌≡◌, ◌⊎◌, ◌+◌, ◌≤◌, ℕ, List, [], ◌∷◌, ◌++◌, length}
use Rattle.gated_log.specs.Entries.{BeginsWithEntries, Entry, IsEntry, IsFresh, OffendsAtTop, Stands, body, gate_place, within}
use Rattle.base_store.specs.History.{History, Empty}
use Rattle.base_store.specs.Legal.{Continues, Tells}

-- the greatest place of a gate: 1 GiB
abbrev pub area_limit : ℕ
area_limit = 1073741824

-- the area isn't fresh, and its entries tell this history
pub record HoldsHistory (area : List ℕ) (h : History) : Type 0 where
  pub entries : List Entry
  pub stands : Stands (within area_limit) area entries
  pub told : Tells entries h

-- the area keeps this history: a fresh one keeps the empty history
abbrev pub KeepsHistory : List ℕ → History → Type 0
KeepsHistory area h = (IsFresh area × (h ≡ Empty)) ⊎ HoldsHistory area h

-- an open gate stands at this place, and behind it no whole entry that is a legal next one
pub record IsStuck (h : History) (gate : ℕ) (rest : List ℕ) : Type 0 where
  pub behind : List ℕ
  pub is_open : rest ≡ 1 ∷ behind
  pub not_legal : (e : Entry) (more : List ℕ) (next : History) → IsEntry (within area_limit) e → gate + 6 + length e.payload ≤ area_limit
      → behind ≡ body e ++ more → Continues h e next → ⊥

-- behind whole and legal entries the area ends with no gate, or is stuck
pub record IsDamagedBehind (area : List ℕ) (at : ℕ) : Type 0 where
  pub entries : List Entry
  pub history : History
  pub told : Tells entries history
  pub rest : List ℕ
  pub begins : BeginsWithEntries (within area_limit) area entries rest
  pub place : at ≡ gate_place entries
  pub offence : (rest ≡ []) ⊎ IsStuck history at rest

-- The area keeps no history, and this is the place where it offends: 0 where it isn't fresh and the header is wrong, else that
-- of the first gate which isn't there, or whose entry isn't whole or isn't legal.
abbrev pub IsDamaged : List ℕ → ℕ → Type 0
IsDamaged area at = OffendsAtTop area at ⊎ IsDamagedBehind area at
