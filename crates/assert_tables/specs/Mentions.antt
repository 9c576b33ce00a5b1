-- Rows, each beside every individual that it names.
use Rattle.std.specs.Prelude.{◌≡◌, ◌≢◌, ◌≤◌, ℕ, List, [], ◌∷◌, Contains, Option, Some, None}
use Rattle.std.specs.BTreeSet.{insert_key}
use Rattle.std.specs.declared.cmp.Ordering.{Ordering}
use Rattle.std.specs.declared.cmp.Ordering.TheVariants.{Less, Greater}
use Rattle.std.specs.Ordering.{nat_cmp, ordering_then}
use Rattle.std.specs.declared.ops.Bound.{Bound}
use Rattle.std.specs.declared.ops.Bound.TheVariants.{Included, Excluded, Unbounded}
use Rattle.dl_base.specs.declared.row.Row.TheVariants as row
use Rattle.dl_base.specs.declared.row.Row.{Row}
use Rattle.assert_tables.specs.Rows.{IsNumberAbove, IsNamedIn}
use Rattle.dl_base.specs.Rows.{numbered_row_cmp}
use Rattle.assert_tables.specs.declared.row_set.Mention.{Mention}

-- the rising list of the rows that are mentioned
abbrev pub rows_of : List Mention → List Row
rows_of [] = []
rows_of (m ∷ ms) = insert_key numbered_row_cmp (rows_of ms) m.row

-- a row stands beside individuals that it names, and beside each of them
pub record AreMentions (ms : List Mention) : Type 0 where
  pub named : (m : Mention) → Contains ms m → IsNamedIn m.individual m.row
  pub each : (m : Mention) → Contains ms m → (a : ℕ) → IsNamedIn a m.row → Contains ms (record { individual = a; row = m.row })

-- by their individuals, and of one individual by their rows
abbrev pub mention_cmp : Mention → Mention → Ordering
mention_cmp m n = ordering_then (nat_cmp m.individual n.individual) (numbered_row_cmp m.row n.row)

-- where the rows that name the individual begin behind that one, or of all
abbrev pub start_at : ℕ → Option Row → Bound Mention
start_at a None = Included (record { individual = a; row = row.Concept 0 0 })
start_at a (Some r) = Excluded (record { individual = a; row = r })

-- the mention stands at the start or behind it
abbrev pub IsFrom : Bound Mention → Mention → Type 0
IsFrom (Included start) m = mention_cmp start m ≢ Greater
IsFrom (Excluded start) m = mention_cmp start m ≡ Less
IsFrom Unbounded m = Unit {0}

-- the least mention from the start on, or none exactly where there is none
abbrev pub IsLeastFrom : List Mention → Bound Mention → Option Mention → Type 0
IsLeastFrom ms start None = (n : Mention) → Contains ms n → IsFrom start n → ⊥
IsLeastFrom ms start (Some m) = Contains ms m × IsFrom start m × ((n : Mention) → Contains ms n → IsFrom start n → mention_cmp m n ≢ Greater)

-- the numbers above that one are those from the least on
pub record IsLow (after : Option ℕ) (least : ℕ) : Type 0 where
  pub reached : (a : ℕ) → IsNumberAbove after a → least ≤ a
  pub wanted : (a : ℕ) → least ≤ a → IsNumberAbove after a
