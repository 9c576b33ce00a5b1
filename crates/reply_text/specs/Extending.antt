-- Bytes that were appended to, perhaps in part.
use Rattle.std.specs.Prelude.{◌≡◌, ℕ, List, ◌++◌}

-- what was there is there, and more may stand behind it
pub record IsAppendedTo (old new : List ℕ) : Type 0 where
  pub more : List ℕ
  pub is : new ≡ old ++ more
