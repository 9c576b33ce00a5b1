-- What the elements of a search have to meet, by the levels of the terms: atoms, and that some terms have one element.
use Rattle.std.specs.Prelude.{◌≡◌, ◌⊎◌, ◌<◌, ℕ, List, Some, slice_get}
use Rattle.dl_base.specs.Tables.{TableRow, IsWitnessOf}
use Rattle.dl_base.specs.declared.element.Elem.{Elem}
use Rattle.query_shape.specs.Shape.{HoldsAt, IsTermOf, IsBelow}
use Rattle.join_ops.specs.declared.condition.Condition.{Condition}
use Rattle.join_ops.specs.declared.condition.Condition.TheVariants as condition
use Rattle.join_ops.specs.declared.condition.Twins.{Twins}

-- the condition speaks of this level
abbrev pub IsLevelOf : ℕ → Condition → Type 0
IsLevelOf k (condition.Atom a) = IsTermOf k a
IsLevelOf k (condition.Twins t) = (k ≡ t.parent) ⊎ (k ≡ t.child) ⊎ (k ≡ t.twin)

-- it speaks of levels below this number alone
abbrev pub IsUnder : ℕ → Condition → Type 0
IsUnder count (condition.Atom a) = IsBelow count a
IsUnder count (condition.Twins t) = (t.parent < count) × (t.child < count) × (t.twin < count)

-- if the child's element is a witness of the role, then that of the twin is the parent's
pub record AreTwins (t : Twins) (elements : List Elem) : Type 0 where
  pub parent : Elem
  pub child : Elem
  pub twin : Elem
  pub parent_is : slice_get elements t.parent ≡ Some parent
  pub child_is : slice_get elements t.child ≡ Some child
  pub twin_is : slice_get elements t.twin ≡ Some twin
  pub one : IsWitnessOf t.role child → twin ≡ parent

-- the elements meet the condition
abbrev pub Meets : List TableRow → List Elem → Condition → Type 0
Meets table elements (condition.Atom a) = HoldsAt table elements a
Meets table elements (condition.Twins t) = AreTwins t elements
