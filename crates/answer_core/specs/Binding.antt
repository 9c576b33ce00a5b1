-- Queries by numbers, with the terms at their answer places.
use Rattle.std.specs.Prelude.{◌≡◌, ◌<◌, ℕ, List, length, All, Contains, Option, None, Some, slice_get, MatchOption}
use Rattle.std.specs.List.{AllZip}
use Rattle.dl_base.specs.Ontology.{Terminology}
use Rattle.dl_base.specs.Query.{Question}
use Rattle.dl_base.specs.declared.query.Term.{Term}
use Rattle.dl_base.specs.declared.query.Term.TheVariants as term
use Rattle.query_shape.specs.Shape.{Layout, IsLayout, IsShapeOf}
use Rattle.join_plan.specs.Plans.{IsPlanOf}
use Rattle.join_plan.specs.declared.steps.Step.{Step}
use Rattle.tree_witness.specs.Trees.{AreTreesOf, Trees}

-- the shape, and the numbers of the terms at the answer places
pub record BoundQuery : Type 0 where
  pub shape : Layout
  pub answers : List ℕ

-- a shape, and at each answer place the number of one of its terms
pub record IsBound (b : BoundQuery) : Type 0 where
  pub layout : IsLayout b.shape
  pub within : All (λ n. n < length b.shape.terms) b.answers

-- such a query with a plan and with the tree witnesses of its shape
pub record IsPlanned (b : BoundQuery) (steps : List Step) (trees : Trees) : Type 0 where
  pub bound : IsBound b
  pub plan : IsPlanOf b.shape steps
  pub trees_are : AreTreesOf b.shape trees

-- the shape is the query's, and at each answer place is the number of the variable there
pub record IsBoundTo (o : Terminology) (q : Question) (b : BoundQuery) : Type 0 where
  pub shape : IsShapeOf o q b.shape
  pub answers : AllZip (λ v n. slice_get b.shape.terms n ≡ Some (term.Var v)) q.answers b.answers

-- a term is fixed where it is a name, on the number that the name has among these
abbrev pub IsFixedTerm : List (List ℕ) → Term → Option ℕ → Type 0
IsFixedTerm names (term.Var v) fixed = fixed ≡ None
IsFixedTerm names (term.Named a) fixed = MatchOption fixed (Contains names a → ⊥) (λ n. slice_get names n ≡ Some a)

-- a name is among these
abbrev pub IsKnownTerm : List (List ℕ) → Term → Type 0
IsKnownTerm names (term.Var v) = Unit {0}
IsKnownTerm names (term.Named a) = Contains names a
