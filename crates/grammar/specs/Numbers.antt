-- Decimal numbers, and how one is read from left to right.
use Rattle.std.specs.Prelude.{◌≡◌, ℕ, ◌+◌, ◌*◌, ◌-◌, ◌≤◌, Bool, List, [], ◌∷◌, length, Ok, Err, cond, ◌==◌, ◌&&◌, nat_le}
use Rattle.std.specs.Fmt.{decimal}
use Rattle.grammar.specs.Bytes.{is_digit}
use Rattle.grammar.specs.Grammar.{Grammar}
use Rattle.grammar.specs.Reading.{Outcome}

-- a number that is at most so great, without sign and without leading zeros
abbrev pub number : ℕ → Grammar ℕ
number most text n = (text ≡ decimal n) × (n ≤ most)

-- the number with this digit behind its own
abbrev pub with_digit : ℕ → ℕ → ℕ
with_digit n c = n * 10 + (c - 48)

-- the byte is a digit, and with it the number isn't too great
abbrev pub may_grow : ℕ → ℕ → ℕ → Bool
may_grow most n c = is_digit c && nat_le (with_digit n c) most

-- the number whose first digits are those of n, and the text behind it
abbrev pub digits_at : ℕ → ℕ → List ℕ → ℕ × List ℕ
digits_at most n [] = (n, [])
digits_at most n (c ∷ cs) = cond (may_grow most n c) (digits_at most (with_digit n c) cs) (n, c ∷ cs)

unfoldable pub number_at : ℕ → List ℕ → Outcome ℕ
number_at most [] = Err 0
number_at most (c ∷ cs) = cond (c == 48) (Ok (0, cs)) (cond (may_grow most 0 c) (Ok (digits_at most (with_digit 0 c) cs)) (Err (length (c ∷ cs))))
