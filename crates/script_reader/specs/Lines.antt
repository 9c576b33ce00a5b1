-- How an input is cut into lines.
use Rattle.std.specs.Prelude.{◌≡◌, ◌==◌, ◌&&◌, ℕ, ◌-◌, List, [], ◌∷◌, ◌++◌, length, take, map, slice_index, nat_lt, if◌then◌else◌, Option, Some, None}
use Rattle.std.specs.List.{flat_map, AllByRecursion}

-- no byte of these is a line end
abbrev pub HasNoEnd : List ℕ → Type 0
HasNoEnd = AllByRecursion (λ b. b ≡ 10 → ⊥)

-- The bytes are cut at each line end: these pieces end with one, in order, and behind the last line end stands this rest.
pub record IsCut (bytes : List ℕ) (pieces : List (List ℕ)) (rest : List ℕ) : Type 0 where
  pub joined : bytes ≡ flat_map (λ piece. piece ++ 10 ∷ []) pieces ++ rest
  pub none_inside : AllByRecursion HasNoEnd pieces
  pub none_behind : HasNoEnd rest

-- a byte 0x0D at the end of a piece isn't part of the line
abbrev pub line_of : List ℕ → List ℕ
line_of piece = if nat_lt 0 (length piece) && (slice_index piece (length piece - 1) == 13) then take (length piece - 1) piece else piece

-- the last piece is a line only where it isn't empty
abbrev pub last_line : List ℕ → List (List ℕ)
last_line [] = []
last_line (b ∷ bytes) = (b ∷ bytes) ∷ []

-- the lines of an input that has ended
pub record AreLines (bytes : List ℕ) (lines : List (List ℕ)) : Type 0 where
  pub pieces : List (List ℕ)
  pub rest : List ℕ
  pub cut : IsCut bytes pieces rest
  pub are : lines ≡ map line_of (pieces ++ last_line rest)

-- the line of a piece as it is given: its text, or nothing where it is too long
abbrev pub given : List ℕ → Option (List ℕ)
given piece = if nat_lt 4096 (length (line_of piece)) then None else Some (line_of piece)
