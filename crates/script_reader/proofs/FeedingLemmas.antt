-- What was fed and what is held.
use Rattle.std.proofs.Common.{◌≡◌, ℕ, ◌+◌, ◌<◌, ◌≤◌, Bool, true, false, List, [], ◌∷◌, ◌++◌, length, take, Option, Some, None, refl, sym, ap, subst, ◌∙◌, arith, if◌then◌else◌}
use Rattle.std.specs.Prelude.{nat_lt}
use Rattle.std.proofs.lemmas.Bool.{ltb-true, ltb-false}
use Rattle.std.proofs.lemmas.List.{take_all}
use Rattle.script_reader.specs.Lines.{HasNoEnd, line_of, given}
use Rattle.script_reader.specs.Feeding.{LineSoFar, kept, begun, told, IsBehind, EndsWithin, TellsFed, FeedsLine, KeptGivesLine}
use Rattle.script_reader.specs.declared.lines.Fed.{Fed}
use Rattle.script_reader.specs.declared.lines.Fed.TheVariants as fed
use Rattle.script_reader.proofs.LineLemmas.{FoundEnd, cut_ends, cut_goes_on, kept_more, stands}

abbrev pub so_far : List ℕ → Bool → LineSoFar
so_far bytes ended = record { bytes = bytes; ended = ended }

-- ---- the line that is given

-- a line, or nothing where it is too long
abbrev if_short : List ℕ → Option (List ℕ)
if_short l = if nat_lt 4096 (length l) then None else Some l

long_is_none : (l : List ℕ) → 4096 < length l → if_short l ≡ None
long_is_none l long = by (nat_lt 4096 (length l)) refl
  where
    by : (b : Bool) → nat_lt 4096 (length l) ≡ b → if_short l ≡ None
    by true e = rw e refl
    by false e = absurd (omega (arith, ltb-false 4096 (length l) e, long))

pub kept_gives_line : KeptGivesLine
kept_gives_line piece = by (nat_lt 4096 (length (line_of (kept piece)))) refl
  where
    by : (b : Bool) → nat_lt 4096 (length (line_of (kept piece))) ≡ b → given (kept piece) ≡ given piece
    by true e =
        let long = ltb-true 4096 (length (line_of (kept piece))) e in
        long_is_none (line_of (kept piece)) long ∙ sym (long_is_none (line_of piece) ((stands piece).long long))
    by false e = ap if_short ((stands piece).short (ltb-false 4096 (length (line_of (kept piece))) e))

-- a line that is told is short, and one that is told to be too long isn't
short_told : (bytes : List ℕ) → told (given bytes) ≡ fed.Line → length (line_of bytes) ≤ 4096
short_told bytes is = by (nat_lt 4096 (length (line_of bytes))) refl
  where
    by : (b : Bool) → nat_lt 4096 (length (line_of bytes)) ≡ b → length (line_of bytes) ≤ 4096
    by true e = absurd (let f : told None ≡ fed.Line = rw e at is in cc)
    by false e = ltb-false 4096 (length (line_of bytes)) e

long_told : (bytes : List ℕ) → told (given bytes) ≡ fed.TooLong → 4096 < length (line_of bytes)
long_told bytes is = by (nat_lt 4096 (length (line_of bytes))) refl
  where
    by : (b : Bool) → nat_lt 4096 (length (line_of bytes)) ≡ b → 4096 < length (line_of bytes)
    by true e = ltb-true 4096 (length (line_of bytes)) e
    by false e = absurd (let f : told (Some (line_of bytes)) ≡ fed.TooLong = rw e at is in cc)

-- what is kept of a piece is told as the line of the whole piece
pub line_told : (bytes piece : List ℕ) → bytes ≡ kept piece → told (given bytes) ≡ fed.Line → (length (line_of bytes) ≤ 4096) × (line_of bytes ≡ line_of piece)
line_told bytes piece is line = (
  short_told bytes line,
  ap line_of is ∙ (stands piece).short (short_told (kept piece) (ap (λ (b : List ℕ). told (given b)) (sym is) ∙ line)),
)

pub too_long_told : (bytes piece : List ℕ) → bytes ≡ kept piece → told (given bytes) ≡ fed.TooLong → 4096 < length (line_of piece)
too_long_told bytes piece is long = (stands piece).long (long_told (kept piece) (ap (λ (b : List ℕ). told (given b)) (sym is) ∙ long))

-- ---- the input so far

pub begun_is : (bytes : List ℕ) (line : LineSoFar) (b : IsBehind bytes line) → begun line ≡ kept b.rest
begun_is bytes line b = by line.ended refl
  where
    by : (t : Bool) → line.ended ≡ t → begun line ≡ kept b.rest
    by true e = rw e (sym (ap kept (b.closed e).nothing_behind))
    by false e = rw e (b.goes_on e)

open_behind : (bytes input : List ℕ) (old : LineSoFar) → IsBehind bytes old → HasNoEnd input → IsBehind (bytes ++ input) (record { bytes = kept (begun old ++ input); ended = false })
open_behind bytes input old b none = record {
  pieces = b.pieces;
  rest = b.rest ++ input;
  cut = cut_goes_on bytes input b.rest b.pieces b.cut none;
  goes_on = λ _. ap (λ (l : List ℕ). kept (l ++ input)) (begun_is bytes old b) ∙ kept_more b.rest input;
  closed = λ no. absurd cc;
}

closed_behind : (bytes text : List ℕ) (old : LineSoFar) → IsBehind bytes old → HasNoEnd text → IsBehind (bytes ++ (text ++ 10 ∷ [])) (record { bytes = kept (begun old ++ text); ended = true })
closed_behind bytes text old b none = record {
  pieces = b.pieces ++ (b.rest ++ text) ∷ [];
  rest = [];
  cut = cut_ends bytes text b.rest b.pieces b.cut none;
  goes_on = λ no. absurd cc;
  closed = λ _. record {
    before = b.pieces;
    piece = b.rest ++ text;
    pieces_are = refl;
    nothing_behind = refl;
    is_kept = ap (λ (l : List ℕ). kept (l ++ text)) (begun_is bytes old b) ∙ kept_more b.rest text;
  };
}

-- ---- what is told

never_more : (o : Option (List ℕ)) → fed.More ≡ told o → ⊥
never_more None e = cc
never_more (Some l) e = cc

tells_end : (old new : LineSoFar) (input : List ℕ) (count : ℕ) (f : Fed) → EndsWithin old input count new → f ≡ told (given new.bytes) → TellsFed old input count f new
tells_end old new input count fed.More ends e = absurd (never_more (given new.bytes) e)
tells_end old new input count fed.Line ends e = (ends, sym e)
tells_end old new input count fed.TooLong ends e = (ends, sym e)

pub feeds_end : (old new : LineSoFar) (input : List ℕ) (at : ℕ) (f : Fed) → FoundEnd input at → new ≡ record { bytes = kept (begun old ++ take at input); ended = true } → f ≡ told (given new.bytes) → FeedsLine old input (at + 1) f new
feeds_end old new input at f found is e = record {
  within = omega (arith, found.below);
  some = λ _. omega arith;
  tells = tells_end old new input (at + 1) f (record { text = take at input; taken = found.here; no_end = found.none; now = is }) e;
  so_far = λ bytes b.
      subst (λ (l : LineSoFar). IsBehind (bytes ++ take (at + 1) input) l) (sym is)
      (subst (λ (l : List ℕ). IsBehind (bytes ++ l) (record { bytes = kept (begun old ++ take at input); ended = true })) (sym found.here)
      (closed_behind bytes (take at input) old b found.none));
}

pub feeds_more : (old new : LineSoFar) (input : List ℕ) → HasNoEnd input → new ≡ record { bytes = kept (begun old ++ input); ended = false } → FeedsLine old input (length input) fed.More new
feeds_more old new input none is = record {
  within = omega arith;
  some = λ h. h;
  tells = record { all = refl; no_end = none; now = is };
  so_far = λ bytes b.
      subst (λ (l : LineSoFar). IsBehind (bytes ++ take (length input) input) l) (sym is)
      (subst (λ (l : List ℕ). IsBehind (bytes ++ l) (record { bytes = kept (begun old ++ input); ended = false })) (sym (take_all (length input) input (omega arith)))
      (open_behind bytes input old b none));
}
