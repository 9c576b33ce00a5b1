-- Searches for the matches of a shape in tables by a plan, and what these have still to give.
use Rattle.std.specs.Prelude.{◌≡◌, ◌≢◌, ◌⊎◌, ◌↔◌, ◌<◌, ℕ, Bool, true, false, List, [], ◌∷◌, Option, length, map, All, Contains, AllPairs}
use Rattle.dl_base.specs.Tables.{TableRow}
use Rattle.dl_base.specs.declared.element.Elem.{Elem}
use Rattle.query_shape.specs.Shape.{Layout, IsShapeMatch}
use Rattle.tree_witness.specs.Trees.{Trees, PassesBy}
use Rattle.join_ops.specs.Joins.{Search, SearchPlace, Behind, Past, IsBehindPlace, IsFixed, AreLeft}
use Rattle.join_ops.specs.Orders.{AgreeUpTo, images_of}

-- every match of the shape in the table that places the fixed terms so, each once, and no other
pub record AreMatches (table : List TableRow) (s : Layout) (fixed : List (Option ℕ)) (matches : List (List Elem)) : Type 0 where
  pub distinct : AllPairs (λ x y. x ≢ y) matches
  pub each : (images : List Elem) → Contains matches images ↔ (IsShapeMatch table s images × IsFixed fixed images)

-- matches of the shape in the table that place the fixed terms so, each once, and among them all that pass by these trees
pub record ArePassing (table : List TableRow) (s : Layout) (trees : Trees) (fixed : List (Option ℕ)) (matches : List (List Elem)) : Type 0 where
  pub distinct : AllPairs (λ x y. x ≢ y) matches
  pub only : (images : List Elem) → Contains matches images → IsShapeMatch table s images × IsFixed fixed images
  pub all : (images : List Elem) → IsShapeMatch table s images → IsFixed fixed images → PassesBy trees images → Contains matches images

-- by number, the level of each term, and the search by these levels
pub record PlannedSearch : Type 0 where
  pub levels : List ℕ
  pub search : Search

-- what is kept of a search: each level is one of its levels, and where it stands behind a match, these are the images
pub record IsKeptSearch (levels : List ℕ) (search : Search) (images : List Elem) : Type 0 where
  pub count : length levels ≡ length search.fixed
  pub within : All (λ level. level < length search.fixed) levels
  pub room : length images ≡ length levels
  pub current : (elements : List Elem) → search.place ≡ Behind elements → images ≡ images_of levels elements

-- The search has these matches in the table still to give, in this order: by the elements of the levels they rise.
pub record HasMatchesLeft (table : List TableRow) (m : PlannedSearch) (left : List (List Elem)) : Type 0 where
  pub by_level : List (List Elem)
  pub are : left ≡ map (images_of m.levels) by_level
  pub goes_on : AreLeft table m.search by_level
  pub count : length m.levels ≡ length m.search.fixed
  pub covers : (level : ℕ) → level < length m.search.fixed → Contains m.levels level

-- from that place the search went on to the first of these, whose elements by level are given, and has the others left
pub record WentToFirst (table : List TableRow) (from : SearchPlace) (left : List (List Elem)) (m : PlannedSearch) : Type 0 where
  pub elements : List Elem
  pub others : List (List Elem)
  pub first : left ≡ images_of m.levels elements ∷ others
  pub behind : IsBehindPlace from elements
  pub stands : m.search.place ≡ Behind elements
  pub goes_on : HasMatchesLeft table m others

-- from that place the search went on to the first of these, or says that there is none
abbrev pub GoesTo : List TableRow → SearchPlace → List (List Elem) → Bool → PlannedSearch → Type 0
GoesTo table from left true m = WentToFirst table from left m
GoesTo table from left false m = (left ≡ []) × HasMatchesLeft table m []

-- the search has left what was left, without those that agree with the last match, whose elements by level are given, up to this level
pub record SkipsAgreeing (table : List TableRow) (left : List (List Elem)) (n : ℕ) (last : List Elem) (m : PlannedSearch) : Type 0 where
  pub others : List (List Elem)
  pub stands : m.search.place ≡ Past n last
  pub goes_on : HasMatchesLeft table m others
  pub kept : (images : List Elem) → Contains others images → Contains left images × (AgreeUpTo m.levels n images (images_of m.levels last) → ⊥)
  pub out : (images : List Elem) → Contains left images → Contains others images ⊎ AgreeUpTo m.levels n images (images_of m.levels last)
