-- The order in which a plan comes to the terms of a shape.
use Rattle.std.proofs.Common.{◌≡◌, ◌≢◌, ◌≤◌, ◌<◌, ◌+◌, ◌^◌, ◌⊎◌, inl, inr, ℕ, List, [], ◌∷◌, ◌++◌, Some, length, map, take, get_or, slice_get, All, AllPairs, Contains, refl, sym, ap, ◌∙◌, subst, arith}
use Rattle.std.specs.List.{flat_map, range_with_len}
use Rattle.std.proofs.lemmas.Grind.{flat_map-append}
use Rattle.std.proofs.lemmas.List.{length-map, take_more}
use Rattle.std.proofs.lemmas.List.Elements.{Contains-get_or}
use Rattle.std.proofs.lemmas.List.FromFn.{length-range_with_len}
use Rattle.std.proofs.lemmas.List.Sorted.{length_permutation}
use Rattle.std.proofs.lemmas.Option.{slice_get-get_or, slice_get_within, get_or_from_slice_get}
use Rattle.dl_base.specs.declared.concept.Role.{Role}
use Rattle.dl_base.proofs.PlaceLemmas.{flat_there, flat_part, map_from, member_at, no_more, one_place, place_of, some_same}
use Rattle.dl_base.proofs.RisingLemmas.{contains_cases, contains_first, contains_later}
use Rattle.query_shape.specs.Shape.{AreFirsts, Layout, IsLayout, IsBelow, IsTermOf}
use Rattle.query_shape.specs.declared.layout.ShapeAtom.{ShapeAtom}
use Rattle.query_shape.specs.declared.layout.ShapeAtom.TheVariants as shape
use Rattle.join_plan.specs.Plans.{IsPathFor, IsPlanOf, IsTermKnown, LeadsBy, places}
use Rattle.join_plan.specs.PlanLaws.{atom_of}
use Rattle.join_plan.specs.declared.steps.AccessPath.{AccessPath}
use Rattle.join_plan.specs.declared.steps.AccessPath.TheVariants as path
use Rattle.join_plan.specs.declared.steps.Step.{Step}
use Rattle.join_plan.proofs.LawLemmas.{each_atom_once, numbered, numbers_distinct, within_numbers}
use Rattle.join_plan.proofs.PlanLemmas.{only_ends}
use Rattle.query_shape.proofs.NumberingLemmas.{firsts_distinct, firsts_from, firsts_into}
use Rattle.join_ops.specs.Orders.{AreLevelsIn, path_terms, plan_terms}

-- the terms of one step more
pub terms_more : (steps : List Step) (i : ℕ) (d : Step) (order : List ℕ) → i < length steps → AreFirsts (plan_terms (take i steps) ++ path_terms (get_or steps i d).path) order → AreFirsts (plan_terms (take (i + 1) steps)) order
terms_more steps i d order below are =
    let terms : Step → List ℕ = λ step. path_terms step.path in
    let more : flat_map terms (take (i + 1) steps) ≡ flat_map terms (take i steps ++ get_or steps i d ∷ []) = ap (flat_map terms) (take_more steps i d below) in
    let both : flat_map terms (take i steps ++ get_or steps i d ∷ []) ≡ flat_map terms (take i steps) ++ flat_map terms (get_or steps i d ∷ []) = flat_map-append terms (take i steps) (get_or steps i d ∷ []) in
    subst (λ (l : List ℕ). AreFirsts l order) (sym (more ∙ both ∙ ap (λ (l : List ℕ). flat_map terms (take i steps) ++ l) (one (path_terms (get_or steps i d).path)))) are
  where
    one : (xs : List ℕ) → xs ++ [] ≡ xs
    one [] = refl
    one (x ∷ xs) = ap (λ (l : List ℕ). x ∷ l) (one xs)

-- ---- paths and their atoms

in_one : (k n : ℕ) → Contains (n ∷ []) k → k ≡ n
in_one k n c = elim (contains_cases n [] k c) [ inl e ↦ e | inr d ↦ absurd (omega (arith, d.1)) ]

in_two : (k n m : ℕ) → Contains (n ∷ m ∷ []) k → (k ≡ n) ⊎ (k ≡ m)
in_two k n m c = elim (contains_cases n (m ∷ []) k c) [ inl e ↦ inl e | inr d ↦ inr (in_one k m d) ]

two_in : (k n m : ℕ) → (k ≡ n) ⊎ (k ≡ m) → Contains (n ∷ m ∷ []) k
two_in k n m (inl e) = subst (Contains (n ∷ m ∷ [])) (sym e) (contains_first n (m ∷ []))
two_in k n m (inr e) = subst (Contains (n ∷ m ∷ [])) (sym e) (contains_later n (m ∷ []) m (contains_first m []))

-- what is in the path is in the atom that it goes through
terms_of_path : (p : AccessPath) (k : ℕ) → Contains (path_terms p) k → IsTermOf k (atom_of p)
terms_of_path (path.ScanConcept c n) k h = in_one k n h
terms_of_path (path.ProbeConcept c n) k h = in_one k n h
terms_of_path (path.ScanRole r n m) k h = in_two k n m h
terms_of_path (path.WalkEdges r n m) k h = in_two k n m h
terms_of_path (path.CheckPair r n m) k h = in_two k n m h

path_has : (p : AccessPath) (k : ℕ) → IsTermOf k (atom_of p) → Contains (path_terms p) k
path_has (path.ScanConcept c n) k h = subst (Contains (n ∷ [])) (sym h) (contains_first n [])
path_has (path.ProbeConcept c n) k h = subst (Contains (n ∷ [])) (sym h) (contains_first n [])
path_has (path.ScanRole r n m) k h = two_in k n m h
path_has (path.WalkEdges r n m) k h = two_in k n m h
path_has (path.CheckPair r n m) k h = two_in k n m h

-- the terms of an atom are those of its path
same_terms : (Known : ℕ → Type 0) (a : ShapeAtom) (p : AccessPath) (k : ℕ) → IsPathFor Known a p → IsTermOf k a → IsTermOf k (atom_of p)
same_terms Known a (path.ScanConcept c n) k h is = subst (IsTermOf k) h.0 is
same_terms Known a (path.ProbeConcept c n) k h is = subst (IsTermOf k) h.0 is
same_terms Known a (path.ScanRole r n m) k h is = only_ends a r n m k h.0 is
same_terms Known a (path.WalkEdges r n m) k h is = only_ends a r n m k h.0 is
same_terms Known a (path.CheckPair r n m) k h is = subst (IsTermOf k) h.0 is

turned_below : (count : ℕ) (a : ShapeAtom) (r : Role) (n m : ℕ) → LeadsBy a r n m → IsBelow count a → IsBelow count (shape.Role r n m)
turned_below count (shape.Concept c x) r n m h below = absurd h
turned_below count (shape.Role q x y) r n m (inl h) below = (omega (arith, h.1, below.0), omega (arith, h.2, below.1))
turned_below count (shape.Role q x y) r n m (inr h) below = (omega (arith, h.1, below.1), omega (arith, h.2, below.0))

path_below : (Known : ℕ → Type 0) (count : ℕ) (a : ShapeAtom) (p : AccessPath) → IsPathFor Known a p → IsBelow count a → IsBelow count (atom_of p)
path_below Known count a (path.ScanConcept c n) h below = subst (IsBelow count) h.0 below
path_below Known count a (path.ProbeConcept c n) h below = subst (IsBelow count) h.0 below
path_below Known count a (path.ScanRole r n m) h below = turned_below count a r n m h.0 below
path_below Known count a (path.WalkEdges r n m) h below = turned_below count a r n m h.0 below
path_below Known count a (path.CheckPair r n m) h below = subst (IsBelow count) h.0 below

below_term : (count k : ℕ) (a : ShapeAtom) → IsBelow count a → IsTermOf k a → k < count
below_term count k (shape.Concept c n) below is = omega (arith, is, below)
below_term count k (shape.Role r n m) below (inl is) = omega (arith, is, below.0)
below_term count k (shape.Role r n m) below (inr is) = omega (arith, is, below.1)

-- ---- the order of a whole plan

module _ (s : Layout) (steps : List Step) (layout : IsLayout s) (plan : IsPlanOf s steps) where
  pub steps_below : (step : Step) → Contains steps step → IsBelow (length s.terms) (atom_of step.path)
  steps_below step c =
      let next = plan.each c.0 step (place_of steps step c) in
      let here = member_at s.atoms step.atom next.atom next.there in
      path_below (IsTermKnown s (take c.0 steps)) (length s.terms) next.atom step.path next.goes (subst (IsBelow (length s.terms)) here.2 (layout.below here.0 next.atom here.1))

  pub all_below : All (λ step. IsBelow (length s.terms) (atom_of step.path)) steps
  all_below k d below = steps_below (get_or steps k d) (Contains-get_or steps k d below)

  -- each term is in what some step goes through
  pub step_of : (k : ℕ) → k < length s.terms → (step : Step) × Contains steps step × IsTermOf k (atom_of step.path)
  step_of k within =
      let used = layout.used k within in
      let place : ℕ = used.1.0 in
      let found = map_from (λ (step : Step). step.atom) steps place (((each_atom_once s steps plan).1 place).1 used.1.1) in
      let step : Step = found.0 in
      let next = plan.each found.1.0 step (place_of steps step found.1) in
      let there : slice_get s.atoms step.atom ≡ Some used.0 = subst (λ (p : ℕ). slice_get s.atoms p ≡ Some used.0) found.2 (place_of s.atoms used.0 used.1) in
      let same : next.atom ≡ used.0 = some_same (sym next.there ∙ there) in
      (step, found.1, same_terms (IsTermKnown s (take found.1.0 steps)) next.atom step.path k next.goes (subst (IsTermOf k) (sym same) used.2))

  pub steps_some : 1 ≤ length steps
  steps_some =
      let count : length (places steps) ≡ length s.atoms = length_permutation (range_with_len 0 (length s.atoms)) (places steps) plan.order ∙ length-range_with_len 0 (length s.atoms) in
      let long : length (map (λ (step : Step). step.atom) steps) ≡ length steps = length-map steps _ in
      omega (arith, count, long, layout.some)

  module _ (order : List ℕ) (firsts : AreFirsts (plan_terms steps) order) where
    pub order_has : (k : ℕ) → k < length s.terms → Contains order k
    order_has k within =
        let at = step_of k within in
        firsts_into firsts k (flat_there (λ (step : Step). path_terms step.path) steps at.0 k at.1 (path_has at.0.path k at.2))

    pub order_within : (k : ℕ) → Contains order k → k < length s.terms
    order_within k c =
        let at = flat_part (λ (step : Step). path_terms step.path) steps k (firsts_from firsts k c) in
        below_term (length s.terms) k (atom_of at.0.path) (steps_below at.0 at.1) (terms_of_path at.0.path k at.2)

    pub order_count : length order ≡ length s.terms
    order_count =
        let n : ℕ = length s.terms in
        let most : length order ≤ length (range_with_len 0 n) = no_more order (range_with_len 0 n) (firsts_distinct firsts) (λ k c. numbered n k (order_within k c)) in
        let least : length (range_with_len 0 n) ≤ length order = no_more (range_with_len 0 n) order (numbers_distinct n) (λ k c. order_has k (within_numbers n k c)) in
        omega (arith, most, least, length-range_with_len 0 n)

    pub order_each : (k : ℕ) → k < length order → Contains order k
    order_each k below = order_has k (omega (arith, below, order_count))

    pub order_all : All (λ term. term < length order) order
    order_all k d below = (let within = order_within (get_or order k d) (Contains-get_or order k d below) in omega (arith, within, order_count))

    pub order_few : length order < 2 ^ 32
    order_few = omega (arith, order_count, layout.terms)

-- the levels that are found for an order of distinct terms
pub levels_of : (order levels : List ℕ) → All (λ term. term < length order) order → AllPairs (λ x y. x ≢ y) order → length levels ≡ length order → ((term level : ℕ) → slice_get levels term ≡ Some level → slice_get order level ≡ Some term)
    → AreLevelsIn order levels
levels_of order levels within distinct long each = record {
  count = long;
  each = λ term level. (each term level, λ at. back term level at);
}
  where
    back : (term level : ℕ) → slice_get order level ≡ Some term → slice_get levels term ≡ Some level
    back term level at =
        let here : get_or order level 0 ≡ term = get_or_from_slice_get order level term 0 at in
        let small : get_or order level 0 < length order = within level 0 (slice_get_within order level term at) in
        let found : slice_get levels term ≡ Some (get_or levels term 0) = slice_get-get_or levels term 0 (omega (arith, here, small, long)) in
        let same : get_or levels term 0 ≡ level = one_place order (get_or levels term 0) level term distinct (each term (get_or levels term 0) found) at in
        found ∙ ap Some same
