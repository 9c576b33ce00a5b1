-- Plans: the atoms of a shape in an order, and how each is gone through when its turn comes.
use Rattle.std.specs.Prelude.{◌≡◌, ◌⊎◌, ◌≤◌, ℕ, List, length, map, take, Contains, slice_get, Some, IsPermutation}
use Rattle.std.specs.List.{range_with_len}
use Rattle.dl_base.specs.Derivation.{inverse}
use Rattle.dl_base.specs.Tables.{TableRow, IsIn, AreCounted}
use Rattle.dl_base.specs.declared.concept.Role.{Role}
use Rattle.dl_base.specs.declared.concept.Basic.{Basic}
use Rattle.dl_base.specs.declared.concept.Basic.TheVariants as basic
use Rattle.dl_base.specs.declared.query.Term.TheVariants as term
use Rattle.query_shape.specs.Shape.{Layout, IsTermOf}
use Rattle.query_shape.specs.declared.layout.ShapeAtom.{ShapeAtom}
use Rattle.query_shape.specs.declared.layout.ShapeAtom.TheVariants as shape
use Rattle.join_plan.specs.declared.steps.AccessPath.{AccessPath}
use Rattle.join_plan.specs.declared.steps.AccessPath.TheVariants as path
use Rattle.join_plan.specs.declared.steps.Step.{Step}

-- the places of the steps' atoms
abbrev pub places : List Step → List ℕ
places steps = map (λ step. step.atom) steps

-- the term is a name
abbrev pub IsNameTerm : Layout → ℕ → Type 0
IsNameTerm s k = (name : List ℕ) × (slice_get s.terms k ≡ Some (term.Named name))

-- the term is in the atom of one of these steps
abbrev pub IsTermReached : Layout → List Step → ℕ → Type 0
IsTermReached s before k = (step : Step) × (a : ShapeAtom) × Contains before step × (slice_get s.atoms step.atom ≡ Some a) × IsTermOf k a

-- the term is known behind these steps: it is a name, or the atom of one of them has it
abbrev pub IsTermKnown : Layout → List Step → ℕ → Type 0
IsTermKnown s before k = IsNameTerm s k ⊎ IsTermReached s before k

-- the atom at this place, which none of these steps has
abbrev pub IsLeft : Layout → List Step → ℕ → ShapeAtom → Type 0
IsLeft s before place a = (slice_get s.atoms place ≡ Some a) × (Contains (places before) place → ⊥)

-- the atom says that the role leads from the one term to the other, as it stands or read the other way round
abbrev pub LeadsBy : ShapeAtom → Role → ℕ → ℕ → Type 0
LeadsBy (shape.Concept c n) role from to = ⊥
LeadsBy (shape.Role r n m) role from to = ((role ≡ r) × (from ≡ n) × (to ≡ m)) ⊎ ((role ≡ inverse r) × (from ≡ m) × (to ≡ n))

-- where these terms are known, the path goes through the atom: it scans where none of its terms is known, walks from a known
-- term to one that isn't, and looks up where all are known
abbrev pub IsPathFor : (ℕ → Type 0) → ShapeAtom → AccessPath → Type 0
IsPathFor Known a (path.ScanConcept c n) = (a ≡ shape.Concept c n) × (Known n → ⊥)
IsPathFor Known a (path.ProbeConcept c n) = (a ≡ shape.Concept c n) × Known n
IsPathFor Known a (path.ScanRole r n m) = LeadsBy a r n m × (Known n → ⊥) × (Known m → ⊥)
IsPathFor Known a (path.WalkEdges r n m) = LeadsBy a r n m × Known n × (Known m → ⊥)
IsPathFor Known a (path.CheckPair r n m) = (a ≡ shape.Role r n m) × Known n × Known m

-- the path looks up elements that are known
abbrev pub LooksUp : AccessPath → Type 0
LooksUp (path.ScanConcept c n) = ⊥
LooksUp (path.ProbeConcept c n) = Unit {0}
LooksUp (path.ScanRole r n m) = ⊥
LooksUp (path.WalkEdges r n m) = ⊥
LooksUp (path.CheckPair r n m) = Unit {0}

-- the path scans the elements of this basic concept
abbrev pub Scans : AccessPath → Basic → Type 0
Scans (path.ScanConcept c n) b = b ≡ basic.Concept c
Scans (path.ProbeConcept c n) b = ⊥
Scans (path.ScanRole r n m) b = b ≡ basic.Exists r
Scans (path.WalkEdges r n m) b = ⊥
Scans (path.CheckPair r n m) b = ⊥

-- the step may stand behind these: its path goes through its atom; it looks up where some atom that is left has known terms alone, and
-- it scans only where no atom that is left has a known term
pub record IsNextStep (s : Layout) (before : List Step) (step : Step) : Type 0 where
  pub atom : ShapeAtom
  pub there : slice_get s.atoms step.atom ≡ Some atom
  pub goes : IsPathFor (IsTermKnown s before) atom step.path
  pub at_once : (place : ℕ) (a : ShapeAtom) → IsLeft s before place a → ((k : ℕ) → IsTermOf k a → IsTermKnown s before k) → LooksUp step.path
  pub connected : (b : Basic) → Scans step.path b → (place : ℕ) (a : ShapeAtom) → IsLeft s before place a → (k : ℕ) → IsTermOf k a → IsTermKnown s before k → ⊥

-- the place of each atom once, and each step is right behind those in front of it
pub record IsPlanOf (s : Layout) (steps : List Step) : Type 0 where
  pub order : IsPermutation (range_with_len 0 (length s.atoms)) (places steps)
  pub each : (k : ℕ) (step : Step) → slice_get steps k ≡ Some step → IsNextStep s (take k steps) step

-- in the table no more elements are in the one basic concept than in the other
pub record IsNoLarger (table : List TableRow) (b other : Basic) : Type 0 where
  pub few : ℕ
  pub many : ℕ
  pub counted : AreCounted (IsIn table b) few
  pub counted_other : AreCounted (IsIn table other) many
  pub order : few ≤ many

-- no scan of an atom that is left behind these steps goes through fewer elements than the step, if that is a scan
abbrev pub IsLeastScan : List TableRow → Layout → List Step → Step → Type 0
IsLeastScan table s before step = (b other : Basic) (place : ℕ) (a : ShapeAtom) (p : AccessPath)
    → Scans step.path b → IsLeft s before place a → IsPathFor (IsTermKnown s before) a p → Scans p other → IsNoLarger table b other

-- each scan is the least one where it begins
abbrev pub BeginsLeast : List TableRow → Layout → List Step → Type 0
BeginsLeast table s steps = (k : ℕ) (step : Step) → slice_get steps k ≡ Some step → IsLeastScan table s (take k steps) step
