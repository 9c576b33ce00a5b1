-- Reading that takes no memory.
use Rattle.std.specs.Prelude.{◌≡◌, ℕ, List, Result, Ok, Err}
use Rattle.grammar.specs.Reading.{Outcome}
use Rattle.txn_codec.specs.declared.stop.Stop.{Stop}

-- What a function returned, seen by view, is what reading gives.
abbrev pub Skims : {X Y : Type 0} → (X → Y) → Result X Stop → Result Y ℕ → Type 0
Skims view (Ok x) read = read ≡ Ok (view x)
Skims view (Err stop) read = read ≡ Err stop.left

-- the text behind the value
abbrev pub behind : {V : Type 0} → Outcome V → Result (List ℕ) ℕ
behind (Ok x) = Ok x.1
behind (Err left) = Err left

-- the value that was read, or this one at a fault
abbrev pub value_or : {V : Type 0} → V → Outcome V → V
value_or other (Ok x) = x.0
value_or other (Err left) = other
