-- Lines of an input that comes in pieces.
use Rattle.std.specs.Prelude.{◌≡◌, ℕ, ◌≤◌, ◌<◌, List, [], ◌∷◌, ◌++◌, length, take, Bool, true, false, Option, Some, None, if◌then◌else◌}
use Rattle.script_reader.specs.Lines.{HasNoEnd, IsCut, line_of, given}
use Rattle.script_reader.specs.declared.lines.Fed.{Fed}
use Rattle.script_reader.specs.declared.lines.Fed.TheVariants as fed

-- the line that was begun last: what is kept of its bytes, and whether it has ended
pub record LineSoFar : Type 0 where
  pub bytes : List ℕ
  pub ended : Bool

-- what is kept of the bytes of a line: enough to tell whether it is too long
abbrev pub kept : List ℕ → List ℕ
kept bytes = take 4098 bytes

-- what is kept of the line that goes on
abbrev pub begun : LineSoFar → List ℕ
begun line = if line.ended then [] else line.bytes

-- what is told of a line that ended
abbrev pub told : Option (List ℕ) → Fed
told None = fed.TooLong
told (Some line) = fed.Line

-- the last piece of an input ended it
pub record EndsIn (pieces : List (List ℕ)) (rest bytes : List ℕ) : Type 0 where
  pub before : List (List ℕ)
  pub piece : List ℕ
  pub pieces_are : pieces ≡ before ++ piece ∷ []
  pub nothing_behind : rest ≡ []
  pub is_kept : bytes ≡ kept piece

-- The input so far is these bytes: the line is their last piece, which ended, or what stands behind their last line end.
pub record IsBehind (bytes : List ℕ) (line : LineSoFar) : Type 0 where
  pub pieces : List (List ℕ)
  pub rest : List ℕ
  pub cut : IsCut bytes pieces rest
  pub goes_on : line.ended ≡ false → line.bytes ≡ kept rest
  pub closed : line.ended ≡ true → EndsIn pieces rest line.bytes

-- all of the input is taken, and the line goes on
pub record GoesOnOver (old : LineSoFar) (input : List ℕ) (count : ℕ) (new : LineSoFar) : Type 0 where
  pub all : count ≡ length input
  pub no_end : HasNoEnd input
  pub now : new ≡ record { bytes = kept (begun old ++ input); ended = false }

-- so many bytes of the input are taken, and they end the line
pub record EndsWithin (old : LineSoFar) (input : List ℕ) (count : ℕ) (new : LineSoFar) : Type 0 where
  pub text : List ℕ
  pub taken : take count input ≡ text ++ 10 ∷ []
  pub no_end : HasNoEnd text
  pub now : new ≡ record { bytes = kept (begun old ++ text); ended = true }

-- what is told of the bytes that were taken
abbrev pub TellsFed : LineSoFar → List ℕ → ℕ → Fed → LineSoFar → Type 0
TellsFed old input count fed.More new = GoesOnOver old input count new
TellsFed old input count fed.Line new = EndsWithin old input count new × (told (given new.bytes) ≡ fed.Line)
TellsFed old input count fed.TooLong new = EndsWithin old input count new × (told (given new.bytes) ≡ fed.TooLong)

-- bytes of the input are taken through the first line end, or all
pub record FeedsLine (old : LineSoFar) (input : List ℕ) (count : ℕ) (f : Fed) (new : LineSoFar) : Type 0 where
  pub within : count ≤ length input
  pub some : 0 < length input → 0 < count
  pub tells : TellsFed old input count f new
  pub so_far : (bytes : List ℕ) → IsBehind bytes old → IsBehind (bytes ++ take count input) new

-- the input has ended: the bytes behind its last line end are a line where there are some
abbrev pub TellsLast : LineSoFar → Fed → LineSoFar → Type 0
TellsLast old fed.More new = (begun old ≡ []) × (new ≡ record { bytes = []; ended = false })
TellsLast old fed.Line new = (0 < length (begun old)) × (new ≡ record { bytes = begun old; ended = true }) × (told (given new.bytes) ≡ fed.Line)
TellsLast old fed.TooLong new = (0 < length (begun old)) × (new ≡ record { bytes = begun old; ended = true }) × (told (given new.bytes) ≡ fed.TooLong)

-- what is kept stands for this line: it is the line, or both are too long
pub record StandsForLine (bytes text : List ℕ) : Type 0 where
  pub long : 4096 < length (line_of bytes) → 4096 < length text
  pub short : length (line_of bytes) ≤ 4096 → line_of bytes ≡ text

-- what is kept of a piece gives the line that the piece gives
abbrev pub KeptGivesLine : Type 0
KeptGivesLine = (piece : List ℕ) → given (kept piece) ≡ given piece
