-- Keys by the numbers of their individuals.
use Rattle.std.specs.Prelude.{◌≡◌, ◌≢◌, ◌⊎◌, ◌↔◌, ◌<◌, ℕ, Bool, true, false, nat_eq, List, Option, Some, slice_get, slice_index, All, AllPairs, Contains}
use Rattle.std.specs.List.{AllZip, list_any}
use lib.Pointwise.{pointwise}
use Rattle.std.specs.List.Sorted.{IsStrictlySortedBy}
use Rattle.dl_base.specs.Ontology.{Terminology}
use Rattle.dl_base.specs.Answers.{key_cmp}
use Rattle.dl_base.specs.Completion.{AreCompleted}
use Rattle.dl_base.specs.Tables.{TableRow}
use Rattle.dl_base.specs.declared.concept.Role.{Role}
use Rattle.dl_base.specs.declared.element.Elem.{Elem}
use Rattle.dl_base.specs.declared.element.Elem.TheVariants as elem
use Rattle.dl_base.specs.declared.row.NamedRow.{NamedRow}
use Rattle.query_shape.specs.Shape.{Layout, IsShapeMatch}
use Rattle.query_shape.specs.Lifting.{LiftsShape}
use Rattle.join_ops.specs.Joins.{IsFixed}
use Rattle.answer_core.specs.Binding.{BoundQuery}

-- the element is the individual of this number, one of so many
abbrev pub IsOf : ℕ → Elem → ℕ → Type 0
IsOf count e n = (e ≡ elem.Named n) × (n < count)

-- the term of the first number has the individual of the second, one of so many
abbrev pub HasIndividual : List Elem → ℕ → ℕ → ℕ → Type 0
HasIndividual images count p n = (slice_get images p ≡ Some (elem.Named n)) × (n < count)

-- the terms of these numbers have these individuals
abbrev pub HaveIndividuals : List Elem → List ℕ → ℕ → List ℕ → Type 0
HaveIndividuals images places count numbers = AllZip (HasIndividual images count) places numbers

-- the table is the completed one of this base, whose individuals have distinct names
pub record IsTableOf (o : Terminology) (rows : List NamedRow) (names : List (List ℕ)) (generation : Role → ℕ) (table : List TableRow) : Type 0 where
  pub distinct : AllPairs (λ x y. x ≢ y) names
  pub completed : AreCompleted o rows names generation table

-- some match that lifts and places the fixed terms so has these individuals at the answer places
pub record IsFoundKey (o : Terminology) (rows : List NamedRow) (names : List (List ℕ)) (generation : Role → ℕ) (table : List TableRow) (b : BoundQuery) (fixed : List (Option ℕ)) (count : ℕ)
    (numbers : List ℕ) : Type 0 where
  pub images : List Elem
  pub match_is : IsShapeMatch table b.shape images
  pub lifts : LiftsShape o rows names generation b.shape images
  pub fixed_are : IsFixed fixed images
  pub reads : HaveIndividuals images b.answers count numbers

-- one of the terms of these numbers has the level
abbrev pub IsLevelOfOne : List ℕ → List ℕ → ℕ → Type 0
IsLevelOfOne levels places level = (p : ℕ) × Contains places p × (slice_index levels p ≡ level)

-- The keys are those that were there and, where the images lift, the one that they have at the places. It is said of each base in
-- whose completed table the images are a match.
abbrev pub AddsLifted : Layout → List Elem → List ℕ → ℕ → List (List ℕ) → List (List ℕ) → Type 0
AddsLifted s images places count old new = (o : Terminology) (rows : List NamedRow) (names : List (List ℕ)) (generation : Role → ℕ) (table : List TableRow)
    → IsTableOf o rows names generation table → IsShapeMatch table s images
    → (numbers : List ℕ) → Contains new numbers ↔ (Contains old numbers ⊎ (LiftsShape o rows names generation s images × HaveIndividuals images places count numbers))

-- whatever individuals the images have at the places, they are one of these keys
abbrev pub HasKeyOf : List Elem → List ℕ → ℕ → List (List ℕ) → Type 0
HasKeyOf images places count found = (numbers : List ℕ) → HaveIndividuals images places count numbers → Contains found numbers

-- all numbers of these keys are below the count
abbrev pub AreWithin : ℕ → List (List ℕ) → Type 0
AreWithin count = All (All (λ n. n < count))

-- one more key, which is one of them however often it was there
abbrev pub AddsKey : {X : Type 0} → List X → X → List X → Type 0
AddsKey {X} old key new = (z : X) → Contains new z ↔ (Contains old z ⊎ (z ≡ key))

-- the key is one of these
abbrev pub has_key : List (List ℕ) → List ℕ → Bool
has_key keys key = list_any (λ k. pointwise nat_eq key k) keys

-- if a last key is said to be there, it is one of these
abbrev pub HasLast : Bool → List ℕ → List (List ℕ) → Type 0
HasLast true last keys = has_key keys last ≡ true
HasLast false last keys = Unit {0}

-- the names of these numbers
abbrev pub SpellsKey : List (List ℕ) → List ℕ → List (List ℕ) → Type 0
SpellsKey names numbers key = AllZip (λ n a. slice_get names n ≡ Some a) numbers key

-- the strictly rising list of the keys by name of these keys by number
pub record AreSpelled (names : List (List ℕ)) (found : List (List ℕ)) (keys : List (List (List ℕ))) : Type 0 where
  pub rising : IsStrictlySortedBy key_cmp keys
  pub members : (key : List (List ℕ)) → Contains keys key ↔ ((numbers : List ℕ) × Contains found numbers × SpellsKey names numbers key)
