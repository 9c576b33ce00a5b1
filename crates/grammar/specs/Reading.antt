-- Reading a text from left to right.
use Rattle.std.specs.Prelude.{◌≡◌, ℕ, zero, suc, Bool, false, List, [], ◌∷◌, ◌++◌, length, take, drop, ◌+◌, Option, Some, None, Result, Ok, Err, cond, ◌==◌}
use Rattle.grammar.specs.Bytes.{is_kind}
use Rattle.grammar.specs.declared.bytes.Kind.TheVariants.{Blank}
use Rattle.grammar.specs.declared.fault.ReadError.{ReadError}
use Rattle.grammar.specs.declared.fault.ReadError.TheVariants as errors

-- a value and the text behind it, or how many bytes are left at the fault
abbrev pub Outcome : Type 0 → Type 0
Outcome V = Result (V × List ℕ) ℕ

abbrev pub and_then : {V W : Type 0} → Outcome V → (V × List ℕ → Outcome W) → Outcome W
and_then (Ok x) f = f x
and_then (Err left) f = Err left

infixl 10 ◌>>=◌
abbrev pub ◌>>=◌ : {V W : Type 0} → Outcome V → (V × List ℕ → Outcome W) → Outcome W
r >>= f = and_then r f

-- What a function returned, seen by view, is what reading gives, unless memory ran out.
abbrev pub Fails : {Y : Type 0} → ReadError → Result Y ℕ → Type 0
Fails errors.Memory read = Unit {0}
Fails (errors.Fault left) read = read ≡ Err left

abbrev pub Gives : {X Y : Type 0} → (X → Y) → Result X ReadError → Result Y ℕ → Type 0
Gives view (Ok x) read = read ≡ Ok (view x)
Gives view (Err e) read = Fails e read

-- the next byte is of a kind
abbrev pub next_is : (ℕ → Bool) → List ℕ → Bool
next_is p [] = false
next_is p (c ∷ cs) = p c

-- a value with nothing behind it
abbrev pub whole : {V : Type 0} → Outcome V → Result V ℕ
whole (Ok (v, [])) = Ok v
whole (Ok (v, c ∷ cs)) = Err (length (c ∷ cs))
whole (Err left) = Err left

-- a value from the front, or the end of a list
abbrev pub then_items : {V : Type 0} → (List ℕ → Outcome (List V)) → Option V × List ℕ → Outcome (List V)
then_items more (None, rest) = Ok ([], rest)
then_items more (Some v, rest) = and_then (more rest) (λ y. Ok (v ∷ y.0, y.1))

-- items until their end comes; an item may depend on how many came before; so many steps at most
unfoldable pub until_at : {V : Type 0} → (ℕ → List ℕ → Outcome (Option V)) → ℕ → ℕ → List ℕ → Outcome (List V)
until_at item zero n text = Err (length text)
until_at item (suc fuel) n text = and_then (item n text) (then_items (until_at item fuel (n + 1)))

-- with what was read before in front
abbrev pub onto : {V : Type 0} → List V → Outcome (List V) → Outcome (List V)
onto front read = and_then read (λ x. Ok (front ++ x.0, x.1))

-- how many bytes of a kind are at the front, counted up to a limit
abbrev pub run_len : (ℕ → Bool) → ℕ → List ℕ → ℕ
run_len p zero text = 0
run_len p (suc n) [] = 0
run_len p (suc n) (c ∷ cs) = cond (p c) (suc (run_len p n cs)) 0

-- the bytes of a kind at the front, at most so many, and the text behind them
abbrev pub run_at : (ℕ → Bool) → ℕ → List ℕ → List ℕ × List ℕ
run_at p most text = (take (run_len p most text) text, drop (run_len p most text) text)

-- one or more bytes of a kind, and at most so many
unfoldable pub some_at : (ℕ → Bool) → ℕ → List ℕ → Outcome (List ℕ)
some_at p most text = cond (next_is p text) (Ok (run_at p most text)) (Err (length text))

-- the blanks at the front
unfoldable pub blanks_at : List ℕ → Outcome (List ℕ)
blanks_at text = Ok (run_at (is_kind Blank) (length text) text)

-- one or more blanks
unfoldable pub some_blanks_at : List ℕ → Outcome (List ℕ)
some_blanks_at text = cond (next_is (is_kind Blank) text) (Ok (run_at (is_kind Blank) (length text) text)) (Err (length text))

-- an expected text
abbrev pub expect_at : List ℕ → List ℕ → Outcome (Unit {0})
expect_at [] text = Ok (tt, text)
expect_at (e ∷ es) [] = Err 0
expect_at (e ∷ es) (c ∷ cs) = cond (c == e) (expect_at es cs) (Err (length (c ∷ cs)))
