-- The choice of the atom whose turn comes next.
use Rattle.std.specs.Prelude.{◌≡◌, ◌⊎◌, ◌<◌, ◌≤◌, ℕ, Bool, true, List, length, map, All, slice_get, Some}
use Rattle.std.specs.List.{range_with_len}
use Rattle.dl_base.specs.Derivation.{inverse}
use Rattle.dl_base.specs.Tables.{TableRow, IsIn, AreCounted}
use Rattle.dl_base.specs.declared.concept.Role.{Role}
use Rattle.dl_base.specs.declared.concept.Basic.TheVariants as basic
use Rattle.query_shape.specs.declared.layout.ShapeAtom.{ShapeAtom}
use Rattle.query_shape.specs.declared.layout.ShapeAtom.TheVariants as shape
use Rattle.join_plan.specs.Plans.{IsPathFor}
use Rattle.join_plan.specs.declared.candidates.Candidate.{Candidate}
use Rattle.join_plan.specs.declared.offers.Cost.{Cost}
use Rattle.join_plan.specs.declared.offers.Cost.TheVariants as cost
use Rattle.join_plan.specs.declared.offers.Offer.{Offer}
use Rattle.join_plan.specs.declared.offers.Choice.{Choice}
use Rattle.join_plan.specs.declared.steps.AccessPath.{AccessPath}
use Rattle.join_plan.specs.declared.steps.AccessPath.TheVariants as path

-- the term of this number is marked
abbrev pub IsMarked : List Bool → ℕ → Type 0
IsMarked known k = slice_get known k ≡ Some true

-- these are how many elements the table has for the atom's first term and its last
abbrev pub AreSizes : List TableRow → ShapeAtom → ℕ → ℕ → Type 0
AreSizes table (shape.Concept c n) first last = AreCounted (IsIn table (basic.Concept c)) first × AreCounted (IsIn table (basic.Concept c)) last
AreSizes table (shape.Role r n m) first last = AreCounted (IsIn table (basic.Exists r)) first × AreCounted (IsIn table (basic.Exists (inverse r))) last

-- the candidate has the sizes that the table has for it
abbrev pub IsSized : List TableRow → Candidate → Type 0
IsSized table c = AreSizes table c.atom c.first c.last

-- each atom with its place and its sizes
pub record AreCandidates (table : List TableRow) (atoms : List ShapeAtom) (left : List Candidate) : Type 0 where
  pub places : map (λ c. c.place) left ≡ range_with_len 0 (length atoms)
  pub there : All (λ c. slice_get atoms c.place ≡ Some c.atom) left
  pub sized : All (IsSized table) left

-- the role is the atom's and this is the size of its first term, or the role is the inverse and it is that of its last one
abbrev pub IsSide : ShapeAtom → ℕ → ℕ → Role → ℕ → Type 0
IsSide (shape.Concept c n) first last role size = ⊥
IsSide (shape.Role r n m) first last role size = ((role ≡ r) × (size ≡ first)) ⊎ ((role ≡ inverse r) × (size ≡ last))

-- what the path costs: a scan costs as much as the smaller one of the sizes
abbrev pub Costs : Candidate → AccessPath → Cost → Type 0
Costs c (path.ScanConcept concept n) k = k ≡ cost.Scan c.first
Costs c (path.ProbeConcept concept n) k = k ≡ cost.Probe
Costs c (path.ScanRole r n m) k = (size : ℕ) × (k ≡ cost.Scan size) × IsSide c.atom c.first c.last r size × (size ≤ c.first) × (size ≤ c.last)
Costs c (path.WalkEdges r n m) k = (size : ℕ) × (k ≡ cost.Walk size)
Costs c (path.CheckPair r n m) k = k ≡ cost.Check

-- a path for the candidate, with its cost
pub record IsOfferFor (known : List Bool) (c : Candidate) (o : Offer) : Type 0 where
  pub goes : IsPathFor (IsMarked known) c.atom o.path
  pub costs : Costs c o.path o.cost

-- the one costs no more than the other
abbrev pub IsNoDearer : Cost → Cost → Type 0
IsNoDearer cost.Check k = Unit {0}
IsNoDearer cost.Probe cost.Check = ⊥
IsNoDearer cost.Probe cost.Probe = Unit {0}
IsNoDearer cost.Probe (cost.Walk m) = Unit {0}
IsNoDearer cost.Probe (cost.Scan m) = Unit {0}
IsNoDearer (cost.Walk n) cost.Check = ⊥
IsNoDearer (cost.Walk n) cost.Probe = ⊥
IsNoDearer (cost.Walk n) (cost.Walk m) = n ≤ m
IsNoDearer (cost.Walk n) (cost.Scan m) = Unit {0}
IsNoDearer (cost.Scan n) cost.Check = ⊥
IsNoDearer (cost.Scan n) cost.Probe = ⊥
IsNoDearer (cost.Scan n) (cost.Walk m) = ⊥
IsNoDearer (cost.Scan n) (cost.Scan m) = n ≤ m

-- the candidate has an offer that is as dear
pub record HasDearer (known : List Bool) (k : Cost) (c : Candidate) : Type 0 where
  pub offer : Offer
  pub is : IsOfferFor known c offer
  pub dear : IsNoDearer k offer.cost

-- the chosen candidate's offer costs no more than those of the first ones
pub record IsCheapest (left : List Candidate) (count : ℕ) (known : List Bool) (choice : Choice) : Type 0 where
  pub candidate : Candidate
  pub there : slice_get left choice.index ≡ Some candidate
  pub is : IsOfferFor known candidate choice.offer
  pub least : (k : ℕ) (c : Candidate) → k < count → slice_get left k ≡ Some c → HasDearer known choice.offer.cost c
