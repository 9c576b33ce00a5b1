-- Rows by number, in order, and the individuals that they name.
use Rattle.std.specs.Prelude.{◌≡◌, ◌≢◌, ◌↔◌, ◌<◌, ◌≤◌, ◌+◌, ℕ, ◌⊎◌, List, [], ◌∷◌, length, Contains, Option, Some, None}
use Rattle.std.specs.declared.cmp.Ordering.TheVariants.{Less, Greater}
use Rattle.std.specs.Ordering.{nat_cmp}
use Rattle.std.specs.BTreeSet.{insert_key}
use Rattle.std.specs.List.Sorted.{IsStrictlySortedBy}
use Rattle.dl_base.specs.Rows.{numbered_row_cmp}
use Rattle.dl_base.specs.declared.row.Row.{Row}
use Rattle.dl_base.specs.declared.row.Row.TheVariants as row

-- a strictly rising list of rows
abbrev pub AreRisingRows : List Row → Type 0
AreRisingRows = IsStrictlySortedBy numbered_row_cmp

-- the individuals that a row names, from left to right
abbrev pub first_of : Row → ℕ
first_of (row.Concept c a) = a
first_of (row.Role p a b) = a

abbrev pub last_of : Row → ℕ
last_of (row.Concept c a) = a
last_of (row.Role p a b) = b

-- the row names the individual
abbrev pub IsNamedIn : ℕ → Row → Type 0
IsNamedIn a r = (a ≡ first_of r) ⊎ (a ≡ last_of r)

-- the strictly rising list with the individuals that the row names, each once
abbrev pub with_individuals : List ℕ → Row → List ℕ
with_individuals names r = insert_key nat_cmp (insert_key nat_cmp names (first_of r)) (last_of r)

-- the strictly rising list of the individuals that some row names
abbrev pub individuals_of : List Row → List ℕ
individuals_of [] = []
individuals_of (r ∷ rs) = with_individuals (individuals_of rs) r

-- how many rows the list has, and how many individuals they name
pub record AreCounts (list : List Row) (rows individuals : ℕ) : Type 0 where
  pub rising : AreRisingRows list
  pub rows_are : rows ≡ length list
  pub individuals_are : individuals ≡ length (individuals_of list)

-- 1 where the individual isn't in the list, and else 0
pub record IsNewcomer (a : ℕ) (names : List ℕ) (n : ℕ) : Type 0 where
  pub few : n ≤ 1
  pub named : n ≡ 0 → Contains names a
  pub new : n ≡ 1 → Contains names a → ⊥

-- the list of individuals grows by so many with those of the row
abbrev pub IsCountOfNew : Row → List ℕ → ℕ → Type 0
IsCountOfNew r names n = length (with_individuals names r) ≡ n + length names

-- the rows and this one, in order
pub record Gains (r : Row) (old new : List Row) : Type 0 where
  pub rising : AreRisingRows new
  pub each : (q : Row) → Contains new q ↔ ((q ≡ r) ⊎ Contains old q)

-- the rows without this one, in order
pub record Loses (r : Row) (old new : List Row) : Type 0 where
  pub rising : AreRisingRows new
  pub each : (q : Row) → Contains new q ↔ ((q ≢ r) × Contains old q)

-- the row comes behind that one, or there is none that it has to come behind
abbrev pub IsRowBehind : Option Row → Row → Type 0
IsRowBehind None r = Unit {0}
IsRowBehind (Some after) r = numbered_row_cmp after r ≡ Less

-- the least row behind that one that names the individual, or none exactly where there is none
abbrev pub IsNextOf : List Row → ℕ → Option Row → Option Row → Type 0
IsNextOf rows a after None = (q : Row) → Contains rows q → IsNamedIn a q → IsRowBehind after q → ⊥
IsNextOf rows a after (Some r) = Contains rows r × IsNamedIn a r × IsRowBehind after r
    × ((q : Row) → Contains rows q → IsNamedIn a q → IsRowBehind after q → numbered_row_cmp r q ≢ Greater)

-- the number is above that one, or there is none that it has to be above
abbrev pub IsNumberAbove : Option ℕ → ℕ → Type 0
IsNumberAbove None a = Unit {0}
IsNumberAbove (Some after) a = after < a

-- the least individual above that one that a row names, or none exactly where there is none
abbrev pub IsNextIndividual : List Row → Option ℕ → Option ℕ → Type 0
IsNextIndividual rows after None = (r : Row) (a : ℕ) → Contains rows r → IsNamedIn a r → IsNumberAbove after a → ⊥
IsNextIndividual rows after (Some b) = IsNumberAbove after b × ((r : Row) × Contains rows r × IsNamedIn b r)
    × ((r : Row) (a : ℕ) → Contains rows r → IsNamedIn a r → IsNumberAbove after a → a < b → ⊥)
