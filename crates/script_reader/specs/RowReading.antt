-- Reading a row from left to right.
use Rattle.std.specs.Prelude.{ℕ, true, List, Ok, cond}
use Rattle.grammar.specs.Reading.{Outcome, ◌>>=◌, next_is, some_blanks_at}
use Rattle.dl_base.specs.NameReading.{name_at}
use Rattle.dl_base.specs.declared.row.NamedRow.{NamedRow}
use Rattle.dl_base.specs.declared.row.NamedRow.TheVariants as row

-- the third name of a row, where there are more bytes than two names
unfoldable pub third_at : List ℕ → List ℕ → List ℕ → Outcome NamedRow
third_at first second text = cond (next_is (λ c. true) text)
    (do
      b ← some_blanks_at text
      third ← name_at b.1
      Ok (row.Role first second third.0, third.1))
    (Ok (row.Concept first second, text))

unfoldable pub row_text_at : List ℕ → Outcome NamedRow
row_text_at text = do
  first ← name_at text
  a ← some_blanks_at first.1
  second ← name_at a.1
  third_at first.0 second.0 second.1
