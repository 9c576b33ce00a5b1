-- Reading the payload of a transaction from left to right.
use Rattle.std.specs.Prelude.{ℕ, Bool, true, false, List, [], ◌∷◌, Ok, cond, ◌==◌}
use Rattle.grammar.specs.Reading.{Outcome, ◌>>=◌, next_is, expect_at}
use Rattle.dl_base.specs.declared.row.NamedRow.{NamedRow}
use Rattle.dl_base.specs.declared.row.NamedRow.TheVariants as rows
use Rattle.dl_base.specs.declared.row.NamedChange.{NamedChange}
use Rattle.txn_codec.specs.PiecesReading.{number_at, spelled_name_at, times_at}

unfoldable pub sign_at : List ℕ → Outcome Bool
sign_at text = cond (next_is (λ c. c == 1) text)
    (do
      s ← expect_at (1 ∷ []) text
      Ok (true, s.1))
    (do
      s ← expect_at (0 ∷ []) text
      Ok (false, s.1))

unfoldable pub row_at : List ℕ → Outcome NamedRow
row_at text = cond (next_is (λ c. c == 2) text)
    (do
      k ← expect_at (2 ∷ []) text
      concept ← spelled_name_at k.1
      individual ← spelled_name_at concept.1
      Ok (rows.Concept concept.0 individual.0, individual.1))
    (do
      k ← expect_at (3 ∷ []) text
      role ← spelled_name_at k.1
      from ← spelled_name_at role.1
      to ← spelled_name_at from.1
      Ok (rows.Role role.0 from.0 to.0, to.1))

unfoldable pub change_at : List ℕ → Outcome NamedChange
change_at text = do
  add ← sign_at text
  r ← row_at add.1
  Ok (record { add = add.0; row = r.0 }, r.1)

unfoldable pub changes_at : List ℕ → Outcome (List NamedChange)
changes_at text = do
  n ← number_at 4 text
  times_at change_at n.0 n.1
