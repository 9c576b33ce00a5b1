-- Bytes that grow where they have room.
use Rattle.std.specs.Prelude.{◌≡◌, ℕ, ◌+◌, ◌≤◌, List, ◌++◌, length, vec_len, vec_capacity}
use Rattle.std.specs.Global.{Vec}

-- so many bytes can be appended without more memory
abbrev pub HasRoom : Vec ℕ → ℕ → Type 0
HasRoom v n = vec_len v + n ≤ vec_capacity v

-- the bytes with these behind them, in the same room
pub record Appends (old new : Vec ℕ) (bytes : List ℕ) : Type 0 where
  pub items : new.items ≡ old.items ++ bytes
  pub len : vec_len new ≡ vec_len old + length bytes
  pub capacity : vec_capacity old ≤ vec_capacity new
