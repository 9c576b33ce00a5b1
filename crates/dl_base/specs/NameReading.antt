-- Reading names and variables from left to right.
use Rattle.std.specs.Prelude.{ℕ, Bool, ◌||◌, List, ◌++◌, length, Ok, Err, cond, codes}
use Rattle.std.specs.Str.{bytes_eq}
use Rattle.grammar.specs.Bytes.{is_kind}
use Rattle.grammar.specs.declared.bytes.Kind.TheVariants.{Starting, Naming, Angled}
use Rattle.grammar.specs.Reading.{Outcome, ◌>>=◌, next_is, run_at, some_at, expect_at}

-- whether the word is one of the four that are no names
abbrev pub is_reserved : List ℕ → Bool
is_reserved word = bytes_eq word (codes "nothing") || bytes_eq word (codes "And") || bytes_eq word (codes "Some") || bytes_eq word (codes "Inv")

-- a bare name of at most so many bytes
unfoldable pub bare_at : ℕ → List ℕ → Outcome (List ℕ)
bare_at most text = cond (next_is (is_kind Starting) text)
    (let found = run_at (is_kind Naming) most text in cond (is_reserved found.0) (Err (length found.1)) (Ok found))
    (Err (length text))

unfoldable pub angled_at : List ℕ → Outcome (List ℕ)
angled_at text = do
  open' ← expect_at (codes "<") text
  inner ← some_at (is_kind Angled) 253 open'.1
  close ← expect_at (codes ">") inner.1
  Ok (codes "<" ++ inner.0 ++ codes ">", close.1)

unfoldable pub name_at : List ℕ → Outcome (List ℕ)
name_at text = cond (next_is (is_kind Starting) text) (bare_at 255 text) (angled_at text)

unfoldable pub variable_at : List ℕ → Outcome (List ℕ)
variable_at text = do
  mark ← expect_at (codes "?") text
  bare_at 254 mark.1

-- a bare name or a reserved word
unfoldable pub word_at : List ℕ → Outcome (List ℕ)
word_at text = cond (next_is (is_kind Starting) text) (Ok (run_at (is_kind Naming) 255 text)) (Err (length text))
