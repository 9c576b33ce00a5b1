-- The laws of plans.
use Rattle.std.proofs.Common.{◌≡◌, ◌≢◌, ◌↔◌, ℕ, suc, ◌+◌, ◌-◌, ◌<◌, ◌≤◌, ◌⊎◌, inl, inr, Bool, true, false, not, List, length, take, drop, get_or, Some, slice_get, AllPairs, Contains, refl, sym, ◌∙◌, ap, subst, arith}
use Rattle.std.specs.List.{range_with_len, remove}
use Rattle.std.proofs.lemmas.List.{get_or-drop, get_or-take, get_or_default, length-drop, length-take}
use Rattle.std.proofs.lemmas.List.Edits.{length-remove}
use Rattle.std.proofs.lemmas.List.Elements.{Contains-append_left, Contains-append_right}
use Rattle.std.proofs.lemmas.List.FromFn.{get_or-range_with_len, length-range_with_len}
use Rattle.std.proofs.lemmas.List.Sorted.{Contains-permutation, IsPermutation-sym, length_permutation}
use Rattle.dl_base.specs.Derivation.{inverse}
use Rattle.dl_base.specs.Tables.{TableRow, turned_row, edge_row}
use Rattle.dl_base.specs.declared.concept.Role.{Role}
use Rattle.dl_base.specs.declared.concept.Basic.{Basic}
use Rattle.dl_base.specs.declared.concept.Basic.TheVariants as basic
use Rattle.dl_base.specs.declared.element.Elem.{Elem}
use Rattle.dl_base.proofs.PlaceLemmas.{map_from, member_at, no_more, place_of, some_same}
use Rattle.query_shape.specs.Shape.{HoldsAt, IsShapeMatch, IsTermOf}
use Rattle.query_shape.specs.declared.layout.ShapeAtom.{ShapeAtom}
use Rattle.query_shape.specs.declared.layout.ShapeAtom.TheVariants as shape
use Rattle.join_plan.specs.Plans.{IsTermKnown, IsPathFor, LeadsBy, Scans, places}
use Rattle.join_plan.specs.PlanLaws.{EachAtomOnce, EachTermKnown, GoesOn, MatchesByPaths, atom_of}
use Rattle.join_plan.specs.declared.steps.AccessPath.{AccessPath}
use Rattle.join_plan.specs.declared.steps.AccessPath.TheVariants as path
use Rattle.join_plan.specs.declared.steps.Step.{Step}
use Rattle.join_plan.proofs.PlanLemmas.{ends}

-- ---- each atom once

-- a number is one of so many
pub numbered : (n k : ℕ) → k < n → Contains (range_with_len 0 n) k
numbered n k within =
    let here : get_or (range_with_len 0 n) k k ≡ 0 + k = get_or-range_with_len 0 n k k within in
    (k, omega (arith, within, length-range_with_len 0 n), omega (arith, here))

pub within_numbers : (n k : ℕ) → Contains (range_with_len 0 n) k → k < n
within_numbers n k c =
    let below : c.0 < n = omega (arith, c.1, length-range_with_len 0 n) in
    let here : get_or (range_with_len 0 n) c.0 k ≡ 0 + c.0 = get_or-range_with_len 0 n c.0 k below in
    omega (arith, here, c.2)

pub numbers_distinct : (n : ℕ) → AllPairs (λ (x : ℕ) (y : ℕ). x ≢ y) (range_with_len 0 n)
numbers_distinct n i j d lt below e =
    let within : j < n = omega (arith, below, length-range_with_len 0 n) in
    let at_i : get_or (range_with_len 0 n) i d ≡ 0 + i = get_or-range_with_len 0 n i d (omega arith) in
    let at_j : get_or (range_with_len 0 n) j d ≡ 0 + j = get_or-range_with_len 0 n j d within in
    omega (arith, at_i, at_j, e)

-- what stands at two places of a list is in it without one of these
module _ (xs : List ℕ) (i j : ℕ) (lt : i < j) (below : j < length xs) (twice : get_or xs i 0 ≡ get_or xs j 0) where
  behind : (m z : ℕ) → i < m → m < length xs → get_or xs m 0 ≡ z → Contains (remove xs i) z
  behind m z later within at =
      let cut : length (drop (suc i) xs) ≡ length xs - suc i = length-drop (suc i) xs in
      let on : suc i + (m - suc i) ≡ m = omega arith in
      let here : get_or (drop (suc i) xs) (m - suc i) z ≡ get_or xs m z = get_or-drop (suc i) xs (m - suc i) z ∙ ap (λ (k : ℕ). get_or xs k z) on in
      let same : get_or xs m z ≡ get_or xs m 0 = get_or_default xs m z 0 within in
      Contains-append_right (take i xs) (drop (suc i) xs) z (m - suc i, omega arith, here ∙ same ∙ at)

  in_front : (m z : ℕ) → m < i → get_or xs m 0 ≡ z → Contains (remove xs i) z
  in_front m z earlier at =
      let cut : length (take i xs) ≡ i = omega (arith, length-take i xs) in
      let here : get_or (take i xs) m z ≡ get_or xs m z = get_or-take i xs m z earlier in
      let same : get_or xs m z ≡ get_or xs m 0 = get_or_default xs m z 0 (omega arith) in
      Contains-append_left (take i xs) (drop (suc i) xs) z (m, omega arith, here ∙ same ∙ at)

  still_there : (z : ℕ) → Contains xs z → Contains (remove xs i) z
  still_there z c = by (three c.0)
    where
      three : (k : ℕ) → (k < i) ⊎ ((k ≡ i) ⊎ (i < k))
      three k = grind arith

      at : get_or xs c.0 0 ≡ z
      at = sym (get_or_default xs c.0 z 0 c.1) ∙ c.2

      by : (c.0 < i) ⊎ ((c.0 ≡ i) ⊎ (i < c.0)) → Contains (remove xs i) z
      by (inl earlier) = in_front c.0 z earlier at
      by (inr (inl e)) = behind j z lt below (sym twice ∙ (let back : get_or xs i 0 ≡ get_or xs c.0 0 = ap (λ (k : ℕ). get_or xs k 0) (sym e) in back) ∙ at)
      by (inr (inr later)) = behind c.0 z later c.1 at

pub each_atom_once : EachAtomOnce
each_atom_once s steps plan = (distinct, λ place. (to place, from place))
  where
    n : ℕ
    n = length s.atoms

    to : (place : ℕ) → Contains (places steps) place → place < length s.atoms
    to place c = within_numbers (length s.atoms) place (Contains-permutation (places steps) (range_with_len 0 (length s.atoms)) place (IsPermutation-sym (range_with_len 0 (length s.atoms)) (places steps) plan.order) c)

    from : (place : ℕ) → place < length s.atoms → Contains (places steps) place
    from place within = Contains-permutation (range_with_len 0 (length s.atoms)) (places steps) place plan.order (numbered (length s.atoms) place within)

    count : length (places steps) ≡ length s.atoms
    count = length_permutation (range_with_len 0 (length s.atoms)) (places steps) plan.order ∙ length-range_with_len 0 (length s.atoms)

    distinct : AllPairs (λ (x : ℕ) (y : ℕ). x ≢ y) (places steps)
    distinct i j d lt below e =
        let at_i : get_or (places steps) i d ≡ get_or (places steps) i 0 = get_or_default (places steps) i d 0 (omega arith) in
        let at_j : get_or (places steps) j d ≡ get_or (places steps) j 0 = get_or_default (places steps) j d 0 below in
        let twice : get_or (places steps) i 0 ≡ get_or (places steps) j 0 = sym at_i ∙ e ∙ at_j in
        let less : length (remove (places steps) i) + 1 ≡ length (places steps) = length-remove (places steps) i (omega arith) in
        let all : length (range_with_len 0 (length s.atoms)) ≤ length (remove (places steps) i) =
        no_more (range_with_len 0 (length s.atoms)) (remove (places steps) i) (numbers_distinct (length s.atoms)) (λ z c. still_there (places steps) i j lt below twice z (from z (within_numbers (length s.atoms) z c))) in
        omega (arith, less, all, count, length-range_with_len 0 (length s.atoms))

-- ---- what is known

pub each_term_known : EachTermKnown
each_term_known s steps layout plan k within =
    let used = layout.used k within in
    let place : ℕ = used.1.0 in
    let found = map_from (λ (step : Step). step.atom) steps place (((each_atom_once s steps plan).1 place).1 used.1.1) in
    inr (found.0, used.0, found.1, subst (λ (p : ℕ). slice_get s.atoms p ≡ Some used.0) found.2 (place_of s.atoms used.0 used.1), used.2)

scan_or_known : (Known : ℕ → Type 0) (a : ShapeAtom) (p : AccessPath) → IsPathFor Known a p → ((b : Basic) × Scans p b) ⊎ ((k : ℕ) × IsTermOf k a × Known k)
scan_or_known Known a (path.ScanConcept c n) h = inl (basic.Concept c, refl)
scan_or_known Known a (path.ProbeConcept c n) h = inr (n, subst (IsTermOf n) (sym h.0) refl, h.1)
scan_or_known Known a (path.ScanRole r n m) h = inl (basic.Exists r, refl)
scan_or_known Known a (path.WalkEdges r n m) h = inr (n, (ends a r n m h.0).0, h.1)
scan_or_known Known a (path.CheckPair r n m) h = inr (n, subst (IsTermOf n) (sym h.0) (inl refl), h.1)

pub goes_on : GoesOn
goes_on s steps plan i step at =
    let next = plan.each i step at in
    elim (scan_or_known (IsTermKnown s (take i steps)) next.atom step.path next.goes) [
      | inl scans ↦ inl scans
      | inr known ↦ inr (next.atom, known.0, next.there, known.1, known.2)
    ]

-- ---- what a path says

edge_turned : (r : Role) (e f : Elem) → edge_row (inverse r) f e ≡ edge_row r e f
edge_turned r e f = by r.inverse
  where
    by : (b : Bool) → turned_row (not b) r.name f e ≡ turned_row b r.name e f
    by false = refl
    by true = refl

role_says : (table : List TableRow) (images : List Elem) (a : ShapeAtom) (r : Role) (n m : ℕ) → LeadsBy a r n m → HoldsAt table images a ↔ HoldsAt table images (shape.Role r n m)
role_says table images (shape.Concept c x) r n m h = absurd h
role_says table images (shape.Role q x y) r n m (inl h) = rw (h.0, h.1, h.2) (λ w. w, λ w. w)
role_says table images (shape.Role q x y) r n m (inr h) = rw (h.0, h.1, h.2) (
  λ w. (w.1, w.0, w.3, w.2, subst (Contains table) (sym (edge_turned q w.0 w.1)) w.4),
  λ w. (w.1, w.0, w.3, w.2, subst (Contains table) (edge_turned q w.1 w.0) w.4),
)

says_the_same : (Known : ℕ → Type 0) (table : List TableRow) (images : List Elem) (a : ShapeAtom) (p : AccessPath) → IsPathFor Known a p → HoldsAt table images a ↔ HoldsAt table images (atom_of p)
says_the_same Known table images a (path.ScanConcept c n) h = rw h.0 (λ w. w, λ w. w)
says_the_same Known table images a (path.ProbeConcept c n) h = rw h.0 (λ w. w, λ w. w)
says_the_same Known table images a (path.ScanRole r n m) h = role_says table images a r n m h.0
says_the_same Known table images a (path.WalkEdges r n m) h = role_says table images a r n m h.0
says_the_same Known table images a (path.CheckPair r n m) h = rw h.0 (λ w. w, λ w. w)

pub matches_by_paths : MatchesByPaths
matches_by_paths s steps table images plan count = (paths_hold, λ holds. record { count = count; atoms = atoms_hold holds })
  where
    paths_hold : IsShapeMatch table s images → (step : Step) → Contains steps step → HoldsAt table images (atom_of step.path)
    paths_hold is step c =
        let next = plan.each c.0 step (place_of steps step c) in
        (says_the_same (IsTermKnown s (take c.0 steps)) table images next.atom step.path next.goes).0 (is.atoms next.atom (member_at s.atoms step.atom next.atom next.there))

    atoms_hold : ((step : Step) → Contains steps step → HoldsAt table images (atom_of step.path)) → (a : ShapeAtom) → Contains s.atoms a → HoldsAt table images a
    atoms_hold holds a c =
        let place : ℕ = c.0 in
        let found = map_from (λ (step : Step). step.atom) steps place (((each_atom_once s steps plan).1 place).1 c.1) in
        let step : Step = found.0 in
        let there : slice_get s.atoms step.atom ≡ Some a = subst (λ (p : ℕ). slice_get s.atoms p ≡ Some a) found.2 (place_of s.atoms a c) in
        let next = plan.each found.1.0 step (place_of steps step found.1) in
        let same : next.atom ≡ a = some_same (sym next.there ∙ there) in
        subst (HoldsAt table images) same ((says_the_same (IsTermKnown s (take found.1.0 steps)) table images next.atom step.path next.goes).1 (holds step found.1))
