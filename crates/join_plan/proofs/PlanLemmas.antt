-- Laws of the plan so far.
use Rattle.std.proofs.Common.{◌≡◌, ◌↔◌, ℕ, suc, ◌+◌, ◌<◌, ◌≤◌, ◌⊎◌, inl, inr, Bool, List, [], ◌∷◌, ◌++◌, length, map, take, drop, get_or, Some, slice_get, All, Contains, IsPermutation, refl, sym, ◌∙◌, ap, subst, arith}
use Rattle.std.specs.List.{range_with_len, remove}
use Rattle.std.proofs.Math.Seq.{take-append_seam}
use Rattle.std.proofs.lemmas.List.{map-append, take-map, drop-map, take-append-le, take_all, length-map, get_or-map}
use Rattle.std.proofs.lemmas.List.Elements.{All-append, All-contains, All-drop, All-take, Contains-append_cases, Contains-append_left, Contains-push, Contains-push_cases}
use Rattle.std.proofs.lemmas.List.FromFn.{get_or-range_with_len, length-range_with_len}
use Rattle.std.proofs.lemmas.List.Sorted.{Contains-permutation, IsPermutation-more}
use Rattle.std.proofs.lemmas.Option.{slice_get_within, get_or_from_slice_get}
use Rattle.dl_base.specs.Derivation.{inverse}
use Rattle.dl_base.specs.Tables.{TableRow, IsIn, AreCounted}
use Rattle.dl_base.specs.declared.concept.Role.{Role}
use Rattle.dl_base.specs.declared.concept.Basic.{Basic}
use Rattle.dl_base.specs.declared.concept.Basic.TheVariants as basic
use Rattle.dl_base.proofs.PlaceLemmas.{got_pushed, map_from, member_at, place_of, some_same}
use Rattle.query_shape.specs.Shape.{Layout, IsTermOf}
use Rattle.query_shape.specs.declared.layout.ShapeAtom.{ShapeAtom}
use Rattle.query_shape.specs.declared.layout.ShapeAtom.TheVariants as shape
use Rattle.join_plan.specs.Plans.{BeginsLeast, IsTermKnown, IsLeastScan, IsLeft, IsNextStep, IsPathFor, LeadsBy, LooksUp, Scans, places}
use Rattle.join_plan.specs.Choice.{AreSizes, Costs, HasDearer, IsCheapest, IsMarked, IsNoDearer, IsSized}
use Rattle.join_plan.specs.declared.candidates.Candidate.{Candidate}
use Rattle.join_plan.specs.declared.offers.Choice.{Choice}
use Rattle.join_plan.specs.declared.offers.Cost.{Cost}
use Rattle.join_plan.specs.declared.offers.Cost.TheVariants as cost
use Rattle.join_plan.specs.declared.steps.AccessPath.{AccessPath}
use Rattle.join_plan.specs.declared.steps.AccessPath.TheVariants as path
use Rattle.join_plan.specs.declared.steps.Step.{Step}

-- the places of the candidates
abbrev pub candidate_places : List Candidate → List ℕ
candidate_places left = map (λ (c : Candidate). c.place) left

-- the steps so far, the atoms that are left, and the marks of the terms that are known
pub record IsDraft (s : Layout) (left : List Candidate) (known : List Bool) (steps : List Step) : Type 0 where
  pub order : IsPermutation (range_with_len 0 (length s.atoms)) (places steps ++ candidate_places left)
  pub there : All (λ (c : Candidate). slice_get s.atoms c.place ≡ Some c.atom) left
  pub count : length known ≡ length s.terms
  pub marks : (k : ℕ) → IsMarked known k ↔ IsTermKnown s steps k
  pub each : (k : ℕ) (step : Step) → slice_get steps k ≡ Some step → IsNextStep s (take k steps) step

-- ---- paths and what they cost

pub path_same : (Known Other : ℕ → Type 0) → ((k : ℕ) → Known k ↔ Other k) → (a : ShapeAtom) (p : AccessPath) → IsPathFor Known a p → IsPathFor Other a p
path_same Known Other same a (path.ScanConcept c n) h = (h.0, λ k. h.1 ((same n).1 k))
path_same Known Other same a (path.ProbeConcept c n) h = (h.0, (same n).0 h.1)
path_same Known Other same a (path.ScanRole r n m) h = (h.0, λ k. h.1 ((same n).1 k), λ k. h.2 ((same m).1 k))
path_same Known Other same a (path.WalkEdges r n m) h = (h.0, (same n).0 h.1, λ k. h.2 ((same m).1 k))
path_same Known Other same a (path.CheckPair r n m) h = (h.0, (same n).0 h.1, (same m).0 h.2)

-- both terms of an edge are the atom's
pub ends : (a : ShapeAtom) (r : Role) (n m : ℕ) → LeadsBy a r n m → IsTermOf n a × IsTermOf m a
ends (shape.Concept c x) r n m h = absurd h
ends (shape.Role q x y) r n m (inl h) = (inl h.1, inr h.2)
ends (shape.Role q x y) r n m (inr h) = (inr h.1, inl h.2)

-- and it has no others
pub only_ends : (a : ShapeAtom) (r : Role) (n m k : ℕ) → LeadsBy a r n m → IsTermOf k a → (k ≡ n) ⊎ (k ≡ m)
only_ends (shape.Concept c x) r n m k h t = absurd h
only_ends (shape.Role q x y) r n m k (inl h) (inl e) = inl (e ∙ sym h.1)
only_ends (shape.Role q x y) r n m k (inl h) (inr e) = inr (e ∙ sym h.2)
only_ends (shape.Role q x y) r n m k (inr h) (inl e) = inr (e ∙ sym h.2)
only_ends (shape.Role q x y) r n m k (inr h) (inr e) = inl (e ∙ sym h.1)

-- where all terms are known, a path looks up
looks_up : (Known : ℕ → Type 0) (a : ShapeAtom) (p : AccessPath) → IsPathFor Known a p → ((k : ℕ) → IsTermOf k a → Known k) → LooksUp p
looks_up Known a (path.ScanConcept c n) h all = absurd (h.1 (all n (subst (IsTermOf n) (sym h.0) refl)))
looks_up Known a (path.ProbeConcept c n) h all = tt
looks_up Known a (path.ScanRole r n m) h all = absurd (h.1 (all n (ends a r n m h.0).0))
looks_up Known a (path.WalkEdges r n m) h all = absurd (h.2 (all m (ends a r n m h.0).1))
looks_up Known a (path.CheckPair r n m) h all = tt

-- where a path scans, no term is known
scans_unknown : (Known : ℕ → Type 0) (a : ShapeAtom) (p : AccessPath) (b : Basic) → Scans p b → IsPathFor Known a p → (k : ℕ) → IsTermOf k a → Known k → ⊥
scans_unknown Known a (path.ScanConcept c n) b s h k t is = let same : k ≡ n = subst (IsTermOf k) h.0 t in h.1 (subst Known same is)
scans_unknown Known a (path.ProbeConcept c n) b s h k t is = absurd s
scans_unknown Known a (path.ScanRole r n m) b s h k t is = elim (only_ends a r n m k h.0 t) [ inl e ↦ h.1 (subst Known e is) | inr e ↦ h.2 (subst Known e is) ]
scans_unknown Known a (path.WalkEdges r n m) b s h k t is = absurd s
scans_unknown Known a (path.CheckPair r n m) b s h k t is = absurd s

-- the cost of a look
abbrev IsLook : Cost → Type 0
IsLook cost.Check = Unit {0}
IsLook cost.Probe = Unit {0}
IsLook (cost.Walk n) = ⊥
IsLook (cost.Scan n) = ⊥

look_costs : (c : Candidate) (p : AccessPath) (k : Cost) → LooksUp p → Costs c p k → IsLook k
look_costs c (path.ScanConcept d n) k l h = absurd l
look_costs c (path.ProbeConcept d n) k l h = subst IsLook (sym h) tt
look_costs c (path.ScanRole r n m) k l h = absurd l
look_costs c (path.WalkEdges r n m) k l h = absurd l
look_costs c (path.CheckPair r n m) k l h = subst IsLook (sym h) tt

costs_look : (c : Candidate) (p : AccessPath) (k : Cost) → IsLook k → Costs c p k → LooksUp p
costs_look c (path.ScanConcept d n) k l h = subst IsLook h l
costs_look c (path.ProbeConcept d n) k l h = tt
costs_look c (path.ScanRole r n m) k l h = subst IsLook h.1 l
costs_look c (path.WalkEdges r n m) k l h = subst IsLook h.1 l
costs_look c (path.CheckPair r n m) k l h = tt

look_below : (a b : Cost) → IsNoDearer a b → IsLook b → IsLook a
look_below cost.Check b h l = tt
look_below cost.Probe b h l = tt
look_below (cost.Walk n) cost.Check h l = absurd h
look_below (cost.Walk n) cost.Probe h l = absurd h
look_below (cost.Walk n) (cost.Walk m) h l = absurd l
look_below (cost.Walk n) (cost.Scan m) h l = absurd l
look_below (cost.Scan n) cost.Check h l = absurd h
look_below (cost.Scan n) cost.Probe h l = absurd h
look_below (cost.Scan n) (cost.Walk m) h l = absurd l
look_below (cost.Scan n) (cost.Scan m) h l = absurd l

-- the cost of a scan, and nothing but a scan costs that
scan_costs : (c : Candidate) (p : AccessPath) (k : Cost) (b : Basic) → Scans p b → Costs c p k → (n : ℕ) × (k ≡ cost.Scan n)
scan_costs c (path.ScanConcept d n) k b s h = (c.first, h)
scan_costs c (path.ProbeConcept d n) k b s h = absurd s
scan_costs c (path.ScanRole r n m) k b s h = (h.0, h.1)
scan_costs c (path.WalkEdges r n m) k b s h = absurd s
scan_costs c (path.CheckPair r n m) k b s h = absurd s

costs_scan : (c : Candidate) (p : AccessPath) (n : ℕ) → Costs c p (cost.Scan n) → (b : Basic) × Scans p b
costs_scan c (path.ScanConcept d x) n h = (basic.Concept d, refl)
costs_scan c (path.ProbeConcept d x) n h = absurd cc
costs_scan c (path.ScanRole r x y) n h = (basic.Exists r, refl)
costs_scan c (path.WalkEdges r x y) n h = let e : cost.Scan n ≡ cost.Walk h.0 = h.1 in absurd cc
costs_scan c (path.CheckPair r x y) n h = absurd cc

scan_below : (n : ℕ) (b : Cost) → IsNoDearer (cost.Scan n) b → (m : ℕ) × (b ≡ cost.Scan m) × (n ≤ m)
scan_below n cost.Check h = absurd h
scan_below n cost.Probe h = absurd h
scan_below n (cost.Walk m) h = absurd h
scan_below n (cost.Scan m) h = (m, refl, h)

scan_number : (n m : ℕ) → cost.Scan n ≡ cost.Scan m → n ≡ m
scan_number n m e = cc

-- what a scan costs is how many elements it goes through
counted_scan : (table : List TableRow) (Known : ℕ → Type 0) (place first last : ℕ) (a : ShapeAtom) (p : AccessPath) (n : ℕ) (b : Basic) → AreSizes table a first last → IsPathFor Known a p
    → Costs (record { place = place; atom = a; first = first; last = last }) p (cost.Scan n) → Scans p b → AreCounted (IsIn table b) n
counted_scan table Known place first last (shape.Concept c x) (path.ScanConcept d y) n b sizes h k s =
    let number : n ≡ first = scan_number n first k in
    let concept : d ≡ c = same_concept h.0 in
    rw (s, number, concept) sizes.0
  where
    same_concept : shape.Concept c x ≡ shape.Concept d y → d ≡ c
    same_concept e = cc
counted_scan table Known place first last (shape.Role r x y) (path.ScanConcept d z) n b sizes h k s = let e : shape.Role r x y ≡ shape.Concept d z = h.0 in absurd cc
counted_scan table Known place first last (shape.Concept c x) (path.ScanRole r y z) n b sizes h k s = absurd h.0
counted_scan table Known place first last (shape.Role q x y) (path.ScanRole r z w) n b sizes h k s = by k.2
  where
    number : n ≡ k.0
    number = scan_number n k.0 k.1

    by : ((r ≡ q) × (k.0 ≡ first)) ⊎ ((r ≡ inverse q) × (k.0 ≡ last)) → AreCounted (IsIn table b) n
    by (inl e) = rw (s, number, e.1, e.0) sizes.0
    by (inr e) = rw (s, number, e.1, e.0) sizes.1
counted_scan table Known place first last a (path.ProbeConcept d y) n b sizes h k s = absurd s
counted_scan table Known place first last a (path.WalkEdges r y z) n b sizes h k s = absurd s
counted_scan table Known place first last a (path.CheckPair r y z) n b sizes h k s = absurd s

-- the elements that a scan goes through, of which there are so many at least
abbrev HasMore : List TableRow → Basic → ℕ → Type 0
HasMore table b n = (many : ℕ) × AreCounted (IsIn table b) many × (n ≤ many)

-- and no scan of the same atom goes through fewer
least_of_atom : (table : List TableRow) (Known Other : ℕ → Type 0) (place first last : ℕ) (a : ShapeAtom) (p q : AccessPath) (n : ℕ) (b : Basic) → AreSizes table a first last → IsPathFor Known a p
    → Costs (record { place = place; atom = a; first = first; last = last }) p (cost.Scan n) → IsPathFor Other a q → Scans q b → HasMore table b n
least_of_atom table Known Other place first last (shape.Concept c x) (path.ScanConcept d y) (path.ScanConcept e z) n b sizes h k i s =
    let number : n ≡ first = scan_number n first k in
    let concept : e ≡ c = same_concept i.0 in
    (first, rw (s, concept) sizes.0, omega arith)
  where
    same_concept : shape.Concept c x ≡ shape.Concept e z → e ≡ c
    same_concept e = cc
least_of_atom table Known Other place first last (shape.Role r x y) (path.ScanRole t u v) (path.ScanRole t' u' v') n b sizes h k i s = by i.0
  where
    number : n ≡ k.0
    number = scan_number n k.0 k.1

    by : ((t' ≡ r) × (u' ≡ x) × (v' ≡ y)) ⊎ ((t' ≡ inverse r) × (u' ≡ y) × (v' ≡ x)) → HasMore table b n
    by (inl e) = (first, rw (s, e.0) sizes.0, omega (arith, number, k.3))
    by (inr e) = (last, rw (s, e.0) sizes.1, omega (arith, number, k.4))
least_of_atom table Known Other place first last (shape.Concept c x) (path.ScanRole t u v) q n b sizes h k i s = absurd h.0
least_of_atom table Known Other place first last (shape.Role r x y) (path.ScanConcept d z) q n b sizes h k i s = let e : shape.Role r x y ≡ shape.Concept d z = h.0 in absurd cc
least_of_atom table Known Other place first last (shape.Concept c x) (path.ScanConcept d y) (path.ScanRole t u v) n b sizes h k i s = absurd i.0
least_of_atom table Known Other place first last (shape.Role r x y) (path.ScanRole t u v) (path.ScanConcept d z) n b sizes h k i s = let e : shape.Role r x y ≡ shape.Concept d z = i.0 in absurd cc
least_of_atom table Known Other place first last a p (path.ProbeConcept d y) n b sizes h k i s = absurd s
least_of_atom table Known Other place first last a p (path.WalkEdges r y z) n b sizes h k i s = absurd s
least_of_atom table Known Other place first last a p (path.CheckPair r y z) n b sizes h k i s = absurd s
least_of_atom table Known Other place first last a (path.ProbeConcept d y) q n b sizes h k i s = absurd cc
least_of_atom table Known Other place first last a (path.WalkEdges r y z) q n b sizes h k i s = let e : cost.Scan n ≡ cost.Walk k.0 = k.1 in absurd cc
least_of_atom table Known Other place first last a (path.CheckPair r y z) q n b sizes h k i s = absurd cc

-- ---- the next step

module _ (s : Layout) (left : List Candidate) (known : List Bool) (steps : List Step) (draft : IsDraft s left known steps) where
  -- an atom that is left is a candidate
  pub record IsCandidate (place : ℕ) (a : ShapeAtom) : Type 0 where
    pub candidate : Candidate
    pub index : ℕ
    pub there : slice_get left index ≡ Some candidate
    pub member : Contains left candidate
    pub atom : candidate.atom ≡ a

  candidate_of : (place : ℕ) (a : ShapeAtom) → IsLeft s steps place a → IsCandidate place a
  candidate_of place a still = by (Contains-append_cases (places steps) (candidate_places left) place (Contains-permutation _ _ place draft.order numbered))
    where
      within : place < length s.atoms
      within = slice_get_within s.atoms place a still.0

      numbered : Contains (range_with_len 0 (length s.atoms)) place
      numbered =
          let here : get_or (range_with_len 0 (length s.atoms)) place place ≡ 0 + place = get_or-range_with_len 0 (length s.atoms) place place within in
          (place, omega (arith, within, length-range_with_len 0 (length s.atoms)), omega (arith, here))

      by : Contains (places steps) place ⊎ Contains (candidate_places left) place → IsCandidate place a
      by (inl done) = absurd (still.1 done)
      by (inr open') =
          let found = map_from (λ (c : Candidate). c.place) left place open' in
          let c : Candidate = found.0 in
          let at : slice_get s.atoms c.place ≡ Some c.atom = All-contains (λ (d : Candidate). slice_get s.atoms d.place ≡ Some d.atom) left c draft.there found.1 in
          record {
            candidate = c;
            index = found.1.0;
            there = place_of left c found.1;
            member = found.1;
            atom = some_same (sym at ∙ rw found.2 at still.0);
          }

  module _ (choice : Choice) (best : IsCheapest left (length left) known choice) where
    dearer : (place : ℕ) (a : ShapeAtom) → (c : IsCandidate place a) → HasDearer known choice.offer.cost c.candidate
    dearer place a c = best.least c.index c.candidate (slice_get_within left c.index c.candidate c.there) c.there

    back : (k : ℕ) → IsTermKnown s steps k → IsMarked known k
    back k = (draft.marks k).1

    chosen_there : slice_get s.atoms best.candidate.place ≡ Some best.candidate.atom
    chosen_there = All-contains (λ (d : Candidate). slice_get s.atoms d.place ≡ Some d.atom) left best.candidate draft.there (member_at left choice.index best.candidate best.there)

    at_once : (place : ℕ) (a : ShapeAtom) → IsLeft s steps place a → ((k : ℕ) → IsTermOf k a → IsTermKnown s steps k) → LooksUp choice.offer.path
    at_once place a still all =
        let c = candidate_of place a still in
        let d = dearer place a c in
        let looks : LooksUp d.offer.path = looks_up (IsMarked known) c.candidate.atom d.offer.path d.is.goes (λ k t. back k (all k (subst (IsTermOf k) c.atom t))) in
        costs_look best.candidate choice.offer.path choice.offer.cost (look_below choice.offer.cost d.offer.cost d.dear (look_costs c.candidate d.offer.path d.offer.cost looks d.is.costs)) best.is.costs

    connected : (b : Basic) → Scans choice.offer.path b → (place : ℕ) (a : ShapeAtom) → IsLeft s steps place a → (k : ℕ) → IsTermOf k a → IsTermKnown s steps k → ⊥
    connected b scans place a still k t is =
        let c = candidate_of place a still in
        let d = dearer place a c in
        let n = scan_costs best.candidate choice.offer.path choice.offer.cost b scans best.is.costs in
        let m = scan_below n.0 d.offer.cost (subst (λ (x : Cost). IsNoDearer x d.offer.cost) n.1 d.dear) in
        let other = costs_scan c.candidate d.offer.path m.0 (subst (Costs c.candidate d.offer.path) m.1 d.is.costs) in
        scans_unknown (IsMarked known) c.candidate.atom d.offer.path other.0 other.1 d.is.goes k (subst (IsTermOf k) (sym c.atom) t) (back k is)

    -- the cheapest candidate has the next step
    pub next_step : (step : Step) → step.atom ≡ best.candidate.place → step.path ≡ choice.offer.path → IsNextStep s steps step
    next_step step place path = record {
      atom = best.candidate.atom;
      there = rw place chosen_there;
      goes = rw path (path_same (IsMarked known) (IsTermKnown s steps) draft.marks best.candidate.atom choice.offer.path best.is.goes);
      at_once = rw path at_once;
      connected = rw path connected;
    }

    -- and if it is a scan, it is the least
    pub least_scan : (table : List TableRow) → All (IsSized table) left → (step : Step) → step.path ≡ choice.offer.path → IsLeastScan table s steps step
    least_scan table sized step path b other place a p scans still goes scans_other =
        let c = candidate_of place a still in
        let d = dearer place a c in
        let scans' : Scans choice.offer.path b = subst (λ (q : AccessPath). Scans q b) path scans in
        let n = scan_costs best.candidate choice.offer.path choice.offer.cost b scans' best.is.costs in
        let m = scan_below n.0 d.offer.cost (subst (λ (x : Cost). IsNoDearer x d.offer.cost) n.1 d.dear) in
        let size_chosen : IsSized table best.candidate = All-contains (IsSized table) left best.candidate sized (member_at left choice.index best.candidate best.there) in
        let size_other : IsSized table c.candidate = All-contains (IsSized table) left c.candidate sized c.member in
        let few : AreCounted (IsIn table b) n.0 =
        counted_scan table (IsMarked known) best.candidate.place best.candidate.first best.candidate.last best.candidate.atom choice.offer.path n.0 b size_chosen best.is.goes (subst (Costs best.candidate choice.offer.path) n.1 best.is.costs) scans' in
        let many : HasMore table other m.0 =
        least_of_atom table (IsMarked known) (IsTermKnown s steps) c.candidate.place c.candidate.first c.candidate.last c.candidate.atom d.offer.path p m.0 other size_other d.is.goes (subst (Costs c.candidate d.offer.path) m.1 d.is.costs) (subst (λ (x : ShapeAtom). IsPathFor (IsTermKnown s steps) x p) (sym c.atom) goes) scans_other in
        record { few = n.0; many = many.0; counted = few; counted_other = many.1; order = omega (arith, m.2, many.2) }

-- ---- one more step

-- what holds of each step, and of one more
each_more : (P : List Step → Step → Type 0) (steps : List Step) (step : Step) → ((k : ℕ) (x : Step) → slice_get steps k ≡ Some x → P (take k steps) x) → P steps step
    → (k : ℕ) (x : Step) → slice_get (steps ++ step ∷ []) k ≡ Some x → P (take k (steps ++ step ∷ [])) x
each_more P steps step before here k x at = by (got_pushed steps step x k at)
  where
    by : (slice_get steps k ≡ Some x) ⊎ ((k ≡ length steps) × (x ≡ step)) → P (take k (steps ++ step ∷ [])) x
    by (inl earlier) =
        let within : k < length steps = slice_get_within steps k x earlier in
        rw (take-append-le k steps (step ∷ []) (omega arith)) (before k x earlier)
    by (inr e) = rw (e.0, e.1, take-append_seam steps (step ∷ [])) here

pub least_more : (table : List TableRow) (s : Layout) (steps : List Step) (step : Step) → BeginsLeast table s steps → IsLeastScan table s steps step → BeginsLeast table s (steps ++ step ∷ [])
least_more table s steps step before here = each_more (IsLeastScan table s) steps step before here

known_more : (s : Layout) (steps : List Step) (step : Step) (a : ShapeAtom) → slice_get s.atoms step.atom ≡ Some a → (k : ℕ) → (IsTermKnown s steps k ⊎ IsTermOf k a) ↔ IsTermKnown s (steps ++ step ∷ []) k
known_more s steps step a at k = (on, back)
  where
    on : IsTermKnown s steps k ⊎ IsTermOf k a → IsTermKnown s (steps ++ step ∷ []) k
    on (inl (inl named)) = inl named
    on (inl (inr r)) = inr (r.0, r.1, Contains-append_left steps (step ∷ []) r.0 r.2, r.3, r.4)
    on (inr t) = inr (step, a, Contains-push steps step, at, t)

    last : (x : Step) (b : ShapeAtom) → slice_get s.atoms x.atom ≡ Some b → IsTermOf k b → Contains steps x ⊎ (step ≡ x) → IsTermKnown s steps k ⊎ IsTermOf k a
    last x b there t (inl c) = inl (inr (x, b, c, there, t))
    last x b there t (inr e) =
        let here : slice_get s.atoms step.atom ≡ Some b = rw e there in
        let same : b ≡ a = some_same (sym here ∙ at) in
        inr (subst (IsTermOf k) same t)

    back : IsTermKnown s (steps ++ step ∷ []) k → IsTermKnown s steps k ⊎ IsTermOf k a
    back (inl named) = inl (inl named)
    back (inr r) = last r.0 r.1 r.3 r.4 (Contains-push_cases steps step r.0 r.2)

all_removed : {X : Type 0} (P : X → Type 0) (xs : List X) (i : ℕ) → All P xs → All P (remove xs i)
all_removed P xs i all = All-append P (take i xs) (drop (suc i) xs) (All-take P i xs all) (All-drop P (suc i) xs all)

pub sized_removed : (table : List TableRow) (left : List Candidate) (i : ℕ) → All (IsSized table) left → All (IsSized table) (remove left i)
sized_removed table left i all = all_removed (IsSized table) left i all

pub draft_more : (s : Layout) (left : List Candidate) (known new : List Bool) (steps : List Step) (step : Step) (i : ℕ) (c : Candidate) → IsDraft s left known steps → slice_get left i ≡ Some c
    → step.atom ≡ c.place → length new ≡ length known → ((k : ℕ) → IsMarked new k ↔ (IsMarked known k ⊎ IsTermOf k c.atom)) → IsNextStep s steps step
    → IsDraft s (remove left i) new (steps ++ step ∷ [])
draft_more s left known new steps step i c draft at place count marks next = record {
  order = rw (map-append (λ (x : Step). x.atom) steps (step ∷ []), removed, place) (IsPermutation-more (range_with_len 0 (length s.atoms)) (places steps) (candidate_places left) i c.place below (sym one) draft.order);
  there = all_removed (λ (d : Candidate). slice_get s.atoms d.place ≡ Some d.atom) left i draft.there;
  count = count ∙ draft.count;
  marks = λ k. (
    λ m. (known_more s steps step c.atom there k).0 (on k ((marks k).0 m)),
    λ m. (marks k).1 (off k ((known_more s steps step c.atom there k).1 m)),
  );
  each = each_more (IsNextStep s) steps step draft.each next;
}
  where
    removed : candidate_places (remove left i) ≡ remove (candidate_places left) i
    removed = map-append (λ (d : Candidate). d.place) (take i left) (drop (suc i) left)
        ∙ ap (λ (xs : List ℕ). xs ++ candidate_places (drop (suc i) left)) (sym (take-map (λ (d : Candidate). d.place) i left))
        ∙ ap (λ (xs : List ℕ). take i (candidate_places left) ++ xs) (sym (drop-map (λ (d : Candidate). d.place) (suc i) left))

    below : i < length (candidate_places left)
    below = rw length-map (slice_get_within left i c at)

    one : get_or (candidate_places left) i c.place ≡ c.place
    one = get_or-map (λ (d : Candidate). d.place) left i c c.place (slice_get_within left i c at) ∙ ap (λ (d : Candidate). d.place) (get_or_from_slice_get left i c c at)

    there : slice_get s.atoms step.atom ≡ Some c.atom
    there = rw place (All-contains (λ (d : Candidate). slice_get s.atoms d.place ≡ Some d.atom) left c draft.there (member_at left i c at))

    on : (k : ℕ) → IsMarked known k ⊎ IsTermOf k c.atom → IsTermKnown s steps k ⊎ IsTermOf k c.atom
    on k (inl m) = inl ((draft.marks k).0 m)
    on k (inr t) = inr t

    off : (k : ℕ) → IsTermKnown s steps k ⊎ IsTermOf k c.atom → IsMarked known k ⊎ IsTermOf k c.atom
    off k (inl m) = inl ((draft.marks k).1 m)
    off k (inr t) = inr t

-- the draft, the sizes and the least scans behind one more step
pub record HasStep (table : List TableRow) (s : Layout) (left : List Candidate) (known : List Bool) (steps : List Step) : Type 0 where
  pub draft : IsDraft s left known steps
  pub sized : All (IsSized table) left
  pub least : BeginsLeast table s steps

pub has_step : (table : List TableRow) (s : Layout) (left : List Candidate) (known marked : List Bool) (steps : List Step) (choice : Choice) (chosen : Candidate) (step : Step)
    → IsDraft s left known steps → All (IsSized table) left → BeginsLeast table s steps → IsCheapest left (length left) known choice
    → chosen ≡ get_or left choice.index chosen → step.atom ≡ chosen.place → step.path ≡ choice.offer.path → length marked ≡ length known
    → ((k : ℕ) → IsMarked marked k ↔ (IsMarked known k ⊎ IsTermOf k chosen.atom)) → HasStep table s (remove left choice.index) marked (steps ++ step ∷ [])
has_step table s left known marked steps choice chosen step draft sized least best is place path count marks = record {
  draft = draft_more s left known marked steps step choice.index chosen draft there place count marks (next_step s left known steps draft choice best step (place ∙ ap (λ (c : Candidate). c.place) same) path);
  sized = sized_removed table left choice.index sized;
  least = least_more table s steps step least (least_scan s left known steps draft choice best table sized step path);
}
  where
    same : chosen ≡ best.candidate
    same = is ∙ get_or_from_slice_get left choice.index best.candidate chosen best.there

    there : slice_get left choice.index ≡ Some chosen
    there = rw same best.there

-- what is written back over a list of as many marks
pub written_back : (n : ℕ) (new old : List Bool) → length new ≡ n → take n (new ++ drop (length new) old) ≡ new
written_back n new old count =
    let within : n ≤ length new = omega arith in
    take-append-le n new (drop (length new) old) within ∙ take_all n new (omega arith)
