-- A search by levels: each term gets an element once the terms before it have theirs.
use Rattle.std.specs.Prelude.{◌≡◌, ◌⊎◌, ◌<◌, ◌≤◌, ℕ, suc, List, [], ◌∷◌, ◌++◌, Option, Some, None, Bool, true, false, length, slice_get, All, Contains}
use Rattle.std.specs.Cmp.Lexicographic.{slice_cmp}
use Rattle.std.specs.declared.cmp.Ordering.TheVariants.{Less}
use Rattle.dl_base.specs.Tables.{TableRow, ConceptRow, edge_row, HasEdge, IsAbove, IsWitnessOf, elem_cmp}
use Rattle.dl_base.specs.declared.element.Elem.{Elem}
use Rattle.dl_base.specs.declared.element.Elem.TheVariants as elem
use Rattle.query_shape.specs.Shape.{HoldsAt, IsTermOf}
use Rattle.query_shape.specs.declared.layout.ShapeAtom.{ShapeAtom}
use Rattle.join_ops.specs.Joins.{SearchPlace, Start, Behind, Past, End, IsFound, IsBehindPlace}
use Rattle.join_ops.specs.Conditions.{IsLevelOf, IsUnder, Meets}
use Rattle.join_ops.specs.declared.condition.Condition.{Condition}
use Rattle.join_ops.specs.declared.condition.Condition.TheVariants as condition
use Rattle.join_ops.specs.declared.condition.Twins.{Twins}
use Rattle.join_ops.specs.declared.level.Level.{Level}
use Rattle.join_ops.specs.declared.source.Edge.{Edge}
use Rattle.join_ops.specs.declared.source.Source.{Source}
use Rattle.join_ops.specs.declared.source.Source.TheVariants as source
use Rattle.join_ops.specs.declared.search.At.{At}
use Rattle.join_ops.specs.declared.search.At.TheVariants as at

-- the number of the one individual that is offered, if it is that
abbrev pub fixed_of : Source → Option ℕ
fixed_of (source.Named n) = Some n
fixed_of (source.Concept c) = None
fixed_of (source.Outgoing r) = None
fixed_of (source.Edge g) = None
fixed_of (source.Twin g t) = None

-- the same for a level
abbrev pub fixed_on : Level → Option ℕ
fixed_on l = fixed_of l.source

-- the edge leads to the element, where the terms in front have these
abbrev pub EdgeLeadsTo : List TableRow → Edge → List Elem → Elem → Type 0
EdgeLeadsTo table g front e = (f : Elem) × (slice_get front g.from ≡ Some f) × Contains table (edge_row g.role f e)

-- if the child's element is a witness of the role, it is the parent's
abbrev pub IsTwin : Twins → List Elem → Elem → Type 0
IsTwin t front e = (f : Elem) × (slice_get front t.child ≡ Some f) × (IsWitnessOf t.role f → slice_get front t.parent ≡ Some e)

-- the element is offered where the terms in front have these elements
abbrev pub Offers : List TableRow → Source → List Elem → Elem → Type 0
Offers table (source.Named n) front e = e ≡ elem.Named n
Offers table (source.Concept c) front e = Contains table (ConceptRow c e)
Offers table (source.Outgoing r) front e = HasEdge table r e
Offers table (source.Edge g) front e = EdgeLeadsTo table g front e
Offers table (source.Twin g t) front e = EdgeLeadsTo table g front e × IsTwin t front e

-- what is offered comes from so many terms in front
abbrev pub IsFromFront : ℕ → Source → Type 0
IsFromFront k (source.Named n) = Unit {0}
IsFromFront k (source.Concept c) = Unit {0}
IsFromFront k (source.Outgoing r) = Unit {0}
IsFromFront k (source.Edge g) = g.from < k
IsFromFront k (source.Twin g t) = (g.from < k) × (t.parent < k) × (t.child < k)

-- whatever is offered for the term of this level, the condition is met with it
abbrev pub HoldsByOffer : Source → ℕ → Condition → Type 0
HoldsByOffer s k c = (table : List TableRow) (front : List Elem) (e : Elem) → length front ≡ k → IsFromFront k s → Offers table s front e → Meets table (front ++ e ∷ []) c

-- the source offers nothing but where the edge leads
abbrev pub IsAlong : Edge → Source → Type 0
IsAlong g s = (s ≡ source.Edge g) ⊎ ((t : Twins) × (s ≡ source.Twin g t))

-- the source has these twins
abbrev pub IsTwinBy : Twins → Source → Type 0
IsTwinBy t s = (g : Edge) × (s ≡ source.Twin g t)

-- the twin has this level, and the others come before
abbrev pub IsTwinAt : ℕ → Twins → Type 0
IsTwinAt k t = (t.twin ≡ k) × (t.parent < k) × (t.child < k)

-- where the atom holds, the element of the term is offered
pub record Serves (k : ℕ) (s : Source) (a : ShapeAtom) : Type 0 where
  pub within : IsFromFront k s
  pub free : fixed_of s ≡ None
  pub offers : (table : List TableRow) (elements : List Elem) (e : Elem) → HoldsAt table elements a → slice_get elements k ≡ Some e → Offers table s elements e

-- the edge is that of an atom
abbrev pub IsEdgeOf : List Condition → ℕ → Edge → Type 0
IsEdgeOf conditions k g = (a : ShapeAtom) × Contains conditions (condition.Atom a) × Serves k (source.Edge g) a

-- an edge, and twins whose twin is the term
abbrev pub IsTwinSource : List Condition → ℕ → Source → Type 0
IsTwinSource conditions k s = (g : Edge) × (t : Twins) × (s ≡ source.Twin g t) × IsEdgeOf conditions k g × Contains conditions (condition.Twins t) × IsTwinAt k t

-- the term is fixed, or it is an atom's, or an edge's among twins
abbrev pub IsSource : List Condition → ℕ → Source → Type 0
IsSource conditions k s = ((n : ℕ) × (s ≡ source.Named n)) ⊎ ((a : ShapeAtom) × Contains conditions (condition.Atom a) × Serves k s a) ⊎ IsTwinSource conditions k s

-- the conditions at these places speak of levels below this number alone
abbrev pub AreUnder : List Condition → ℕ → List ℕ → Type 0
AreUnder conditions count checks = All (λ i. (c : Condition) × (slice_get conditions i ≡ Some c) × IsUnder count c) checks

-- the elements meet the conditions at these places
abbrev pub MeetsAll : List TableRow → List Condition → List ℕ → List Elem → Type 0
MeetsAll table conditions checks elements = (i : ℕ) (c : Condition) → Contains checks i → slice_get conditions i ≡ Some c → Meets table elements c

-- some of these places has the condition
abbrev pub IsChecked : List Condition → List ℕ → Condition → Type 0
IsChecked conditions checks c = (i : ℕ) × Contains checks i × (slice_get conditions i ≡ Some c)

-- the places of conditions that speak of this level and of none above; all of them, but for those that hold by what is offered
pub record AreChecks (conditions : List Condition) (s : Source) (k : ℕ) (checks : List ℕ) : Type 0 where
  pub under : AreUnder conditions (suc k) checks
  pub all : (c : Condition) → Contains conditions c → IsLevelOf k c → IsUnder (suc k) c → IsChecked conditions checks c ⊎ HoldsByOffer s k c

-- the level offers from what is in front, and tests what then has its elements
pub record IsWellPlaced (conditions : List Condition) (k : ℕ) (l : Level) : Type 0 where
  pub within : IsFromFront k l.source
  pub under : AreUnder conditions (suc k) l.checks.items

-- a level for each term
pub record IsTermLevel (conditions : List Condition) (k : ℕ) (l : Level) : Type 0 where
  pub source_is : IsSource conditions k l.source
  pub checks_are : AreChecks conditions l.source k l.checks.items

abbrev pub AreLevels : List Condition → List Level → Type 0
AreLevels conditions levels = (k : ℕ) (l : Level) → slice_get levels k ≡ Some l → IsTermLevel conditions k l

-- an element for the term behind these in front
pub record Fits (table : List TableRow) (conditions : List Condition) (l : Level) (front : List Elem) (e : Elem) : Type 0 where
  pub offered : Offers table l.source front e
  pub passes : MeetsAll table conditions l.checks.items (front ++ e ∷ [])

-- the place that is kept as the images and what they are
abbrev pub search_place : At → List Elem → SearchPlace
search_place at.Start images = Start
search_place at.Behind images = Behind images
search_place (at.Past n) images = Past n images
search_place at.End images = End

-- the images begin above the front, or with it and go on above that element
abbrev pub IsBeyond : List Elem → Option Elem → List Elem → Type 0
IsBeyond front after [] = ⊥
IsBeyond [] after (x ∷ xs) = IsAbove after x
IsBeyond (f ∷ fs) after (x ∷ xs) = (elem_cmp f x ≡ Less) ⊎ ((f ≡ x) × IsBeyond fs after xs)

-- each condition on these terms is met, and each fixed one of them is on its individual
pub record IsFoundFront (table : List TableRow) (conditions : List Condition) (fixed : List (Option ℕ)) (front : List Elem) : Type 0 where
  pub met : (c : Condition) → Contains conditions c → IsUnder (length front) c → Meets table front c
  pub fixed_are : (k n : ℕ) → k < length front → slice_get fixed k ≡ Some (Some n) → slice_get front k ≡ Some (elem.Named n)

-- what is behind the place is what goes on above this element of the next term
pub record IsAtFront (table : List TableRow) (conditions : List Condition) (fixed : List (Option ℕ)) (place : SearchPlace) (front : List Elem) (after : Option Elem) : Type 0 where
  pub front_is : IsFoundFront table conditions fixed front
  pub beyond : (images : List Elem) → IsFound table conditions fixed images → IsBehindPlace place images → IsBeyond front after images
  pub behind : (images : List Elem) → length images ≡ length fixed → IsBeyond front after images → IsBehindPlace place images

-- the least of the matches behind the place
pub record IsLeast (table : List TableRow) (conditions : List Condition) (fixed : List (Option ℕ)) (place : SearchPlace) (images : List Elem) : Type 0 where
  pub found : IsFound table conditions fixed images
  pub behind : IsBehindPlace place images
  pub least : (others : List Elem) → IsFound table conditions fixed others → IsBehindPlace place others → (images ≡ others) ⊎ (slice_cmp elem_cmp images others ≡ Less)

-- it is that match, or there is none behind the place
abbrev pub Finds : List TableRow → List Condition → List (Option ℕ) → SearchPlace → Bool → List Elem → Type 0
Finds table conditions fixed place true images = IsLeast table conditions fixed place images
Finds table conditions fixed place false images = (others : List Elem) → IsFound table conditions fixed others → IsBehindPlace place others → ⊥

-- There are conditions, on so many levels, and each level is that of a term of an atom.
pub record AreOnLevels (count : ℕ) (conditions : List Condition) : Type 0 where
  pub some : 1 ≤ length conditions
  pub under : (c : Condition) → Contains conditions c → IsUnder count c
  pub used : (k : ℕ) → k < count → (a : ShapeAtom) × Contains conditions (condition.Atom a) × IsTermOf k a

-- what a search over so many terms is kept as
pub record IsSearch (conditions : List Condition) (levels : List Level) (count : ℕ) : Type 0 where
  pub some : 1 ≤ count
  pub each : length levels ≡ count
  pub under : (c : Condition) → Contains conditions c → IsUnder count c
  pub levels_are : AreLevels conditions levels
