-- How rows by number differ from what they were.
use Rattle.std.specs.Prelude.{◌↔◌, ◌⊎◌, List, Contains}
use Rattle.dl_base.specs.declared.row.Row.{Row}
use Rattle.row_changes.specs.declared.difference.Difference.{Difference}

-- what came is there now and wasn't before, and what went was there and isn't now
pub record IsDifference (old new : List Row) (d : Difference) : Type 0 where
  pub come : (r : Row) → Contains d.come r ↔ (Contains new r × (Contains old r → ⊥))
  pub gone : (r : Row) → Contains d.gone r ↔ (Contains old r × (Contains new r → ⊥))

-- the rows of the list are there too
abbrev pub AddsEach : List Row → List Row → List Row → Type 0
AddsEach list old new = (r : Row) → Contains new r ↔ (Contains list r ⊎ Contains old r)

-- the rows of the list are there no more
abbrev pub RemovesEach : List Row → List Row → List Row → Type 0
RemovesEach list old new = (r : Row) → Contains new r ↔ ((Contains list r → ⊥) × Contains old r)
