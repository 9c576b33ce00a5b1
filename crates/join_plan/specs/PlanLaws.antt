-- Laws of plans, and small ones.
use Rattle.std.specs.Prelude.{◌≡◌, ◌≢◌, ◌↔◌, ◌⊎◌, ◌<◌, ℕ, List, [], ◌∷◌, length, take, codes, false, AllPairs, Contains, slice_get, Some}
use Rattle.dl_base.specs.Tables.{TableRow, ConceptRow}
use Rattle.dl_base.specs.declared.concept.Role.{Role}
use Rattle.dl_base.specs.declared.concept.Basic.{Basic}
use Rattle.dl_base.specs.declared.element.Elem.{Elem}
use Rattle.dl_base.specs.declared.element.Elem.TheVariants as elem
use Rattle.dl_base.specs.declared.query.Term.TheVariants as term
use Rattle.query_shape.specs.Shape.{HoldsAt, IsLayout, IsShapeMatch, IsTermOf, Layout}
use Rattle.query_shape.specs.declared.layout.ShapeAtom.{ShapeAtom}
use Rattle.query_shape.specs.declared.layout.ShapeAtom.TheVariants as shape
use Rattle.join_plan.specs.Plans.{BeginsLeast, IsTermKnown, IsPlanOf, Scans, places}
use Rattle.join_plan.specs.declared.steps.AccessPath.{AccessPath}
use Rattle.join_plan.specs.declared.steps.AccessPath.TheVariants as path
use Rattle.join_plan.specs.declared.steps.Step.{Step}

-- a plan has the place of each atom, and none twice
abbrev pub EachAtomOnce : Type 0
EachAtomOnce = (s : Layout) (steps : List Step) → IsPlanOf s steps
    → AllPairs (λ x y. x ≢ y) (places steps) × ((place : ℕ) → Contains (places steps) place ↔ (place < length s.atoms))

-- behind the whole plan each term is known
abbrev pub EachTermKnown : Type 0
EachTermKnown = (s : Layout) (steps : List Step) → IsLayout s → IsPlanOf s steps → (k : ℕ) → k < length s.terms → IsTermKnown s steps k

-- a step that is no scan has an atom with a known term
abbrev pub GoesOn : Type 0
GoesOn = (s : Layout) (steps : List Step) → IsPlanOf s steps → (i : ℕ) (step : Step) → slice_get steps i ≡ Some step
    → ((b : Basic) × Scans step.path b) ⊎ ((a : ShapeAtom) × (k : ℕ) × (slice_get s.atoms step.atom ≡ Some a) × IsTermOf k a × IsTermKnown s (take i steps) k)

-- what a path goes through, as an atom
abbrev pub atom_of : AccessPath → ShapeAtom
atom_of (path.ScanConcept c n) = shape.Concept c n
atom_of (path.ProbeConcept c n) = shape.Concept c n
atom_of (path.ScanRole r n m) = shape.Role r n m
atom_of (path.WalkEdges r n m) = shape.Role r n m
atom_of (path.CheckPair r n m) = shape.Role r n m

-- images for the terms are a match exactly where the paths of all steps hold
abbrev pub MatchesByPaths : Type 0
MatchesByPaths = (s : Layout) (steps : List Step) (table : List TableRow) (images : List Elem) → IsPlanOf s steps → length images ≡ length s.terms
    → IsShapeMatch table s images ↔ ((step : Step) → Contains steps step → HoldsAt table images (atom_of step.path))

-- who is in A and in B, while there is something in A? The concept A has number 0, and B has 1
abbrev pub a_and_b : Layout
a_and_b = record {
  terms = term.Var (codes "x") ∷ term.Var (codes "y") ∷ [];
  atoms = shape.Concept 0 0 ∷ shape.Concept 0 1 ∷ shape.Concept 1 0 ∷ [];
}

-- two elements are in A, and one is in B
abbrev pub two_in_a : List TableRow
two_in_a = ConceptRow 0 (elem.Named 0) ∷ ConceptRow 0 (elem.Named 1) ∷ ConceptRow 1 (elem.Named 0) ∷ []

-- first what is in B, then whether it is in A, and then the other part
abbrev pub b_first : List Step
b_first = record { atom = 2; path = path.ScanConcept 1 0 } ∷ record { atom = 0; path = path.ProbeConcept 0 0 } ∷ record { atom = 1; path = path.ScanConcept 0 1 } ∷ []

-- that is a plan
abbrev pub BeginsWithB : Type 0
BeginsWithB = IsPlanOf a_and_b b_first

-- and one that begins with A doesn't begin with the least scan
abbrev pub NotWithA : Type 0
NotWithA = (steps : List Step) → BeginsLeast two_in_a a_and_b (record { atom = 0; path = path.ScanConcept 0 0 } ∷ steps) → ⊥

abbrev pub role_r : Role
role_r = record { name = 0; inverse = false }

-- to what does r lead from c?
abbrev pub from_c : Layout
from_c = record { terms = term.Named (codes "c") ∷ term.Var (codes "x") ∷ []; atoms = shape.Role role_r 0 1 ∷ [] }

-- it is walked from c, and not scanned
abbrev pub FromTheName : Type 0
FromTheName = IsPlanOf from_c (record { atom = 0; path = path.WalkEdges role_r 0 1 } ∷ []) × (IsPlanOf from_c (record { atom = 0; path = path.ScanRole role_r 0 1 } ∷ []) → ⊥)

-- a part of A and r, and another one of B
abbrev pub two_parts : Layout
two_parts = record {
  terms = term.Var (codes "x") ∷ term.Var (codes "y") ∷ term.Var (codes "z") ∷ [];
  atoms = shape.Concept 0 0 ∷ shape.Role role_r 0 1 ∷ shape.Concept 1 2 ∷ [];
}

-- no plan begins the other part in the midst of the one
abbrev pub OnePartAtATime : Type 0
OnePartAtATime = IsPlanOf two_parts (record { atom = 0; path = path.ScanConcept 0 0 } ∷ record { atom = 2; path = path.ScanConcept 1 2 } ∷ record { atom = 1; path = path.WalkEdges role_r 0 1 } ∷ []) → ⊥
