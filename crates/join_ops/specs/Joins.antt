-- Searches in tables for elements that meet conditions, by the levels of terms, and what these have still to give.
use Rattle.std.specs.Prelude.{◌≡◌, ◌≢◌, ◌↔◌, ℕ, Bool, true, false, List, [], ◌∷◌, Option, Some, length, take, slice_get, AllPairs, Contains}
use Rattle.std.specs.Cmp.Lexicographic.{slice_cmp}
use Rattle.std.specs.List.Sorted.{IsStrictlySortedBy}
use Rattle.std.specs.declared.cmp.Ordering.TheVariants.{Less}
use Rattle.dl_base.specs.Tables.{TableRow, elem_cmp}
use Rattle.dl_base.specs.declared.element.Elem.{Elem}
use Rattle.dl_base.specs.declared.element.Elem.TheVariants as elem
use Rattle.join_ops.specs.Conditions.{Meets}
use Rattle.join_ops.specs.declared.condition.Condition.{Condition}

-- each fixed term is on the individual of its number
abbrev pub IsFixed : List (Option ℕ) → List Elem → Type 0
IsFixed fixed images = (k n : ℕ) → slice_get fixed k ≡ Some (Some n) → slice_get images k ≡ Some (elem.Named n)

-- before the first match, behind the match that was given last, behind all that have so many first images as it has, or at the end
pub data SearchPlace : Type 0 where
  Start : SearchPlace
  Behind : List Elem → SearchPlace
  Past : ℕ → List Elem → SearchPlace
  End : SearchPlace

-- the conditions that are to be met, the individual of each fixed one of their terms, and how far the search has come; all by the
-- levels of the terms
pub record Search : Type 0 where
  pub conditions : List Condition
  pub fixed : List (Option ℕ)
  pub place : SearchPlace

-- an image for each term, such that the fixed terms are on their individuals and each condition is met
pub record IsFound (table : List TableRow) (conditions : List Condition) (fixed : List (Option ℕ)) (images : List Elem) : Type 0 where
  pub count : length images ≡ length fixed
  pub met : (c : Condition) → Contains conditions c → Meets table images c
  pub fixed_are : IsFixed fixed images

-- the images are above those that were given last, or so many first ones of them are
abbrev pub IsBehindPlace : SearchPlace → List Elem → Type 0
IsBehindPlace Start images = Unit {0}
IsBehindPlace (Behind last) images = slice_cmp elem_cmp last images ≡ Less
IsBehindPlace (Past n last) images = slice_cmp elem_cmp (take n last) (take n images) ≡ Less
IsBehindPlace End images = ⊥

-- the search doesn't stand behind what it gave last
abbrev pub IsAway : SearchPlace → Type 0
IsAway place = (last : List Elem) → place ≡ Behind last → ⊥

-- what was given last is a match
abbrev pub IsLast : List TableRow → List Condition → List (Option ℕ) → SearchPlace → Type 0
IsLast table conditions fixed Start = Unit {0}
IsLast table conditions fixed (Behind last) = IsFound table conditions fixed last
IsLast table conditions fixed (Past n last) = IsFound table conditions fixed last
IsLast table conditions fixed End = Unit {0}

-- The search has these matches in the table still to give, in this order.
pub record AreLeft (table : List TableRow) (search : Search) (left : List (List Elem)) : Type 0 where
  pub last : IsLast table search.conditions search.fixed search.place
  pub rising : IsStrictlySortedBy (slice_cmp elem_cmp) left
  pub each : (images : List Elem) → Contains left images ↔ (IsFound table search.conditions search.fixed images × IsBehindPlace search.place images)

-- in any table the search has all left that is found, each once
abbrev pub HasAllLeft : List Condition → List (Option ℕ) → Search → Type 0
HasAllLeft conditions fixed search = (table : List TableRow) → (left : List (List Elem)) × AreLeft table search left × AllPairs (λ x y. x ≢ y) left
    × ((elements : List Elem) → Contains left elements ↔ IsFound table conditions fixed elements)

-- the search stands behind the first of these, and has the others left
pub record StandsBehindFirst (table : List TableRow) (left : List (List Elem)) (search : Search) : Type 0 where
  pub images : List Elem
  pub others : List (List Elem)
  pub first : left ≡ images ∷ others
  pub stands : search.place ≡ Behind images
  pub goes_on : AreLeft table search others

-- the search went on to the first of these, or says that there is none
abbrev pub Advances : List TableRow → List (List Elem) → Bool → Search → Type 0
Advances table left true search = StandsBehindFirst table left search
Advances table left false search = (left ≡ []) × AreLeft table search []

-- the search has left what was left, without those that have so many first images as the last match has
pub record SkipsAlike (table : List TableRow) (left : List (List Elem)) (n : ℕ) (last : List Elem) (search : Search) : Type 0 where
  pub others : List (List Elem)
  pub stands : search.place ≡ Past n last
  pub goes_on : AreLeft table search others
  pub each : (images : List Elem) → Contains others images ↔ (Contains left images × (take n images ≢ take n last))
