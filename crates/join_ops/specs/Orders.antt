-- The order in which terms get their elements by a plan, and what atoms and images are by it. The level of a term is its place
-- in the order.
use Rattle.std.specs.Prelude.{◌≡◌, ◌↔◌, ◌<◌, ℕ, List, [], ◌∷◌, length, map, Option, None, Some, slice_get, slice_index, slice_index_or}
use Rattle.std.specs.List.{flat_map}
use Rattle.dl_base.specs.declared.element.Elem.{Elem}
use Rattle.dl_base.specs.declared.element.Elem.TheVariants as elem
use Rattle.query_shape.specs.Shape.{AreFirsts}
use Rattle.query_shape.specs.declared.layout.ShapeAtom.{ShapeAtom}
use Rattle.query_shape.specs.declared.layout.ShapeAtom.TheVariants as shape
use Rattle.join_plan.specs.declared.steps.AccessPath.{AccessPath}
use Rattle.join_plan.specs.declared.steps.AccessPath.TheVariants as path
use Rattle.join_plan.specs.declared.steps.Step.{Step}

-- the terms of a path, as it comes to them
abbrev pub path_terms : AccessPath → List ℕ
path_terms (path.ScanConcept c n) = n ∷ []
path_terms (path.ProbeConcept c n) = n ∷ []
path_terms (path.ScanRole r n m) = n ∷ m ∷ []
path_terms (path.WalkEdges r n m) = n ∷ m ∷ []
path_terms (path.CheckPair r n m) = n ∷ m ∷ []

-- those of all steps, one path behind the other
abbrev pub plan_terms : List Step → List ℕ
plan_terms steps = flat_map (λ step. path_terms step.path) steps

-- by number, the level that each term has in this order
pub record AreLevelsIn (order levels : List ℕ) : Type 0 where
  pub count : length levels ≡ length order
  pub each : (term level : ℕ) → (slice_get levels term ≡ Some level) ↔ (slice_get order level ≡ Some term)

-- by number, the level of each term: terms come in the order in which the paths of the steps first come to them
pub record AreLevelsBy (steps : List Step) (levels : List ℕ) : Type 0 where
  pub order : List ℕ
  pub firsts : AreFirsts (plan_terms steps) order
  pub levels_are : AreLevelsIn order levels

-- the atom by the levels of its terms
abbrev pub leveled : List ℕ → ShapeAtom → ShapeAtom
leveled levels (shape.Concept c n) = shape.Concept c (slice_index levels n)
leveled levels (shape.Role r n m) = shape.Role r (slice_index levels n) (slice_index levels m)

-- the images of terms by number, where these are the elements by level
abbrev pub images_of : List ℕ → List Elem → List Elem
images_of levels elements = map (λ level. slice_index_or elements level (elem.Named 0)) levels

-- for the terms in this order, the individual of each fixed one
abbrev pub fixed_in : List ℕ → List (Option ℕ) → List (Option ℕ)
fixed_in order fixed = map (λ term. slice_index_or fixed term None) order

-- each term on one of the first levels has one image in both
abbrev pub AgreeUpTo : List ℕ → ℕ → List Elem → List Elem → Type 0
AgreeUpTo levels n images others = (term level : ℕ) → slice_get levels term ≡ Some level → level < n → slice_get images term ≡ slice_get others term
