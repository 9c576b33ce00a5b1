-- Rows that are gathered, and put in order together.
use Rattle.std.specs.Prelude.{ℕ, ◌≡◌, ◌<◌, ◌↔◌, ◌⊎◌, List, [], ◌∷◌, Contains}
use Rattle.std.specs.BTreeSet.{insert_key}
use Rattle.dl_base.specs.Rows.{numbered_row_cmp}
use Rattle.dl_base.specs.declared.row.Row.{Row}
use Rattle.assert_tables.specs.Rows.{AreRisingRows, IsNamedIn}
use Rattle.assert_tables.specs.declared.row_set.Mention.{Mention}

-- the rows with those of the list, in order
abbrev pub with_rows : List Row → List Row → List Row
with_rows rows [] = rows
with_rows rows (r ∷ rs) = insert_key numbered_row_cmp (with_rows rows rs) r

-- each individual that the rows name has a number below this one
abbrev pub NameBelow : ℕ → List Row → Type 0
NameBelow above rows = (r : Row) (a : ℕ) → Contains rows r → IsNamedIn a r → a < above

-- the settled rows are in order, and all that they and the waiting ones name is below the number
pub record AreGathered (settled waiting : List Row) (above : ℕ) : Type 0 where
  pub rising : AreRisingRows settled
  pub settled_below : NameBelow above settled
  pub waiting_below : NameBelow above waiting

-- each row beside each individual that it names
abbrev pub AreBeside : List Row → List Mention → Type 0
AreBeside rows ms = (m : Mention) → Contains ms m ↔ (Contains rows m.row × IsNamedIn m.individual m.row)

-- the rows of the list came to the others, in order
pub record AreAdded (list old new : List Row) : Type 0 where
  pub rising : AreRisingRows new
  pub each : (r : Row) → Contains new r ↔ (Contains list r ⊎ Contains old r)

-- the waiting rows are settled
pub record Settles (settled waiting new_settled new_waiting : List Row) : Type 0 where
  pub all : new_settled ≡ with_rows settled waiting
  pub none : new_waiting ≡ []
