-- The rows that name an individual.
use Rattle.std.specs.Prelude.{ℕ, Bool, List, [], ◌∷◌, ◌==◌, ◌↔◌, Contains, if◌then◌else◌}
use Rattle.dl_base.specs.declared.row.Row.{Row}
use Rattle.assert_tables.specs.Rows.{AreRisingRows, IsNamedIn}
use Rattle.assert_tables.specs.declared.row_set.Mention.{Mention}

-- the rows of the first mentions, as long as these are of the individual
abbrev pub front_of : ℕ → List Mention → List Row
front_of a [] = []
front_of a (m ∷ ms) = if m.individual == a then m.row ∷ front_of a ms else []

-- what is left of them, where none is once they have ended
abbrev pub left_of : Bool → ℕ → List Mention → List Row
left_of ended a ms = if ended then [] else front_of a ms

-- those of the rows that name the individual, in order
pub record AreRowsNaming (rows : List Row) (a : ℕ) (these : List Row) : Type 0 where
  pub rising : AreRisingRows these
  pub each : (r : Row) → Contains these r ↔ (Contains rows r × IsNamedIn a r)
