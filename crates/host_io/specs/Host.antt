-- What a print does to the bytes that a host has printed.
use Rattle.std.specs.Prelude.{◌≡◌, ℕ, List, ◌++◌, Option, Some, None, Result, OnOk}

-- behind what was printed before stands a front of these bytes, and they are told
pub record ShowsFront (before bytes : List ℕ) (printed : Option (List ℕ)) : Type 0 where
  pub shown : List ℕ
  pub more : List ℕ
  pub whole : bytes ≡ shown ++ more
  pub now : printed ≡ Some (before ++ shown)

-- The bytes printed grow by these, or after a failure by some front of these. What is told stays told, and what isn't
-- told stays untold.
pub record Prints {T E : Type 0} (bytes : List ℕ) (result : Result T E) (old new : Option (List ℕ)) : Type 0 where
  pub ok : OnOk result ((before : List ℕ) → old ≡ Some before → new ≡ Some (before ++ bytes))
  pub told : (before : List ℕ) → old ≡ Some before → ShowsFront before bytes new
  pub untold : old ≡ None → new ≡ None
