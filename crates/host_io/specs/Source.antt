-- What a read does to the bytes that a source has left.
use Rattle.std.specs.Prelude.{◌≡◌, ℕ, List, [], ◌++◌, Option, Some, None}

-- The bytes that are left lose these at their front. What is told stays told, and what isn't told stays untold.
pub record Takes (old new : Option (List ℕ)) (bytes : List ℕ) : Type 0 where
  pub told : (before : List ℕ) → old ≡ Some before → (rest : List ℕ) × (new ≡ Some rest) × (before ≡ bytes ++ rest)
  pub untold : old ≡ None → new ≡ None

-- no bytes are left, where they are told
abbrev pub AtEnd : Option (List ℕ) → Type 0
AtEnd left = (rest : List ℕ) → left ≡ Some rest → rest ≡ []

-- what a source that doesn't tell its bytes has left
abbrev pub untold : Option (List ℕ)
untold = None
