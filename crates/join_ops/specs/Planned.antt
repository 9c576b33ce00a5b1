-- What a search by a plan has to meet, by the levels of terms: the atoms of the plan's paths, and the twins of tree witnesses.
use Rattle.std.specs.Prelude.{◌≡◌, ◌++◌, ℕ, List, [], Option, Some, map, slice_index, Contains}
use Rattle.tree_witness.specs.declared.oriented.OrientedAtom.{OrientedAtom}
use Rattle.tree_witness.specs.declared.tree.ReachedTerm.{ReachedTerm}
use Rattle.tree_witness.specs.declared.trees.TreeEntry.{TreeEntry}
use Rattle.join_plan.specs.PlanLaws.{atom_of}
use Rattle.join_plan.specs.declared.steps.Step.{Step}
use Rattle.query_shape.specs.Shape.{AreFirsts}
use Rattle.join_ops.specs.Joins.{HasAllLeft}
use Rattle.join_ops.specs.Matching.{PlannedSearch}
use Rattle.join_ops.specs.Orders.{AreLevelsIn, fixed_in, leveled, plan_terms}
use Rattle.join_ops.specs.declared.order.Leveled.{Leveled}
use Rattle.join_ops.specs.declared.condition.Condition.{Condition}
use Rattle.join_ops.specs.declared.condition.Condition.TheVariants as condition
use Rattle.join_ops.specs.declared.condition.Twins.{Twins}

-- the atoms that the paths of these steps go through, by level
abbrev pub leveled_atoms : List ℕ → List Step → List Condition
leveled_atoms levels steps = map (λ step. condition.Atom (leveled levels (atom_of step.path))) steps

-- by levels, in the order in which the paths of these steps come to terms: the level of each term, the atoms, and what is fixed
pub record AreLeveled (steps : List Step) (fixed : List (Option ℕ)) (l : Leveled) : Type 0 where
  pub order : List ℕ
  pub firsts : AreFirsts (plan_terms steps) order
  pub levels_are : AreLevelsIn order l.levels
  pub atoms_are : l.conditions.items ≡ leveled_atoms l.levels steps
  pub fixed_are : l.fixed.items ≡ fixed_in order fixed

-- the search is by these levels, and in any table has all left that is found
pub record BeginsBy (l : Leveled) (m : PlannedSearch) : Type 0 where
  pub levels_are : m.levels ≡ l.levels
  pub fixed_are : m.search.fixed ≡ l.fixed.items
  pub begins : HasAllLeft l.conditions.items l.fixed.items m.search

-- the twins, by level, of an oriented atom and a term of its tree
abbrev pub twins_of : List ℕ → OrientedAtom → ReachedTerm → Twins
twins_of levels a h = record { role = a.role; parent = slice_index levels a.from; child = slice_index levels a.to; twin = slice_index levels h.term }

-- the condition is that of an oriented atom and of a term without roles in this tree
abbrev pub IsTopBy : List ℕ → OrientedAtom → List ReachedTerm → Condition → Type 0
IsTopBy levels a tree c = (h : ReachedTerm) × Contains tree h × (h.roles ≡ []) × (c ≡ condition.Twins (twins_of levels a h))

-- the condition is that of one of these oriented atoms and a term without roles in its tree
abbrev pub AreTwinsBy : List ℕ → List TreeEntry → Condition → Type 0
AreTwinsBy levels entries c = (e : TreeEntry) × (tree : List ReachedTerm) × Contains entries e × (e.tree ≡ Some tree) × IsTopBy levels e.atom tree c

-- conditions of this kind were put behind those that were there
abbrev pub AddsTwins : (Condition → Type 0) → List Condition → List Condition → Type 0
AddsTwins Kind old new = (more : List Condition) × (new ≡ old ++ more) × ((c : Condition) → Contains more c → Kind c)
