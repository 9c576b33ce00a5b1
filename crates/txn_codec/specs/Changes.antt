-- The payload of a transaction.
use Rattle.std.specs.Prelude.{Bool, true, false, List, [], ◌∷◌}
use Rattle.grammar.specs.Grammar.{Grammar, ◌>>=◌, ◌>>◌, means, ◌∣◌, literal}
use Rattle.dl_base.specs.declared.row.NamedRow.{NamedRow}
use Rattle.dl_base.specs.declared.row.NamedRow.TheVariants as rows
use Rattle.dl_base.specs.declared.row.NamedChange.{NamedChange}
use Rattle.txn_codec.specs.Pieces.{number, spelled_name, exactly}

-- one byte: 1 for add, 0 for remove
abbrev pub sign : Grammar Bool
sign = (literal (1 ∷ []) >> means true) ∣ (literal (0 ∷ []) >> means false)

-- the number of names in one byte, and the names in the order of the row
abbrev pub concept_row : Grammar NamedRow
concept_row = do
  literal (2 ∷ [])
  concept ← spelled_name
  individual ← spelled_name
  means (rows.Concept concept individual)

abbrev pub role_row : Grammar NamedRow
role_row = do
  literal (3 ∷ [])
  role ← spelled_name
  from ← spelled_name
  to ← spelled_name
  means (rows.Role role from to)

abbrev pub row : Grammar NamedRow
row = concept_row ∣ role_row

abbrev pub change : Grammar NamedChange
change = do
  add ← sign
  r ← row
  means (record { add = add; row = r })

-- the number of changes in four bytes, and the changes; nothing follows
abbrev pub changes_payload : Grammar (List NamedChange)
changes_payload = do
  n ← number 4
  exactly n change
