-- Counts of failures, and when a failure may be answered.
use Rattle.std.specs.Prelude.{◌≡◌, ℕ, ◌+◌, ◌-◌, ◌^◌, ◌≤◌, min, List, Contains, Result, OnOk, OnErr}

-- One more. A count stands still at the end of its type, which is 64 bits wide.
abbrev pub raised : ℕ → ℕ
raised count = min (count + 1) (2 ^ 64 - 1)

-- the count rose: it is greater than before, or stands at its end
abbrev pub Rose : ℕ → ℕ → Type 0
Rose before now = raised before ≤ now

-- The count has not fallen. Where the call is done it stays, and a failure comes only where it rose.
pub record HasCause {T E : Type 0} (before now : ℕ) (result : Result T E) : Type 0 where
  pub later : before ≤ now
  pub done : OnOk result (now ≡ before)
  pub failed : OnErr result (Rose before now)

-- The call after this many calls is listed. Calls are numbered from 1.
abbrev pub IsListed : List ℕ → ℕ → Type 0
IsListed fails calls = Contains fails (calls + 1)
