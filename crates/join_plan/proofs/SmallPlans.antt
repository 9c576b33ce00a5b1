-- Small plans.
use Rattle.std.proofs.Common.{◌≡◌, ◌≢◌, ℕ, zero, suc, ◌≤◌, ◌⊎◌, inl, inr, [], ◌∷◌, length, take, Some, slice_get, AllPairs, Contains, refl, sym, subst, arith, codes}
use Rattle.dl_base.specs.Tables.{ConceptRow}
use Rattle.dl_base.specs.declared.concept.Basic.TheVariants as basic
use Rattle.dl_base.specs.declared.element.Elem.{Elem}
use Rattle.dl_base.specs.declared.element.Elem.TheVariants as elem
use Rattle.dl_base.proofs.PlaceLemmas.{no_more, some_same}
use Rattle.dl_base.proofs.RisingLemmas.{contains_cases, contains_first, contains_later}
use Rattle.query_shape.specs.Shape.{IsTermOf}
use Rattle.query_shape.specs.declared.layout.ShapeAtom.{ShapeAtom}
use Rattle.query_shape.specs.declared.layout.ShapeAtom.TheVariants as shape
use Rattle.join_plan.specs.Plans.{IsTermKnown, IsLeft, IsNameTerm, IsNextStep, IsNoLarger, IsPlanOf}
use Rattle.join_plan.specs.PlanLaws.{BeginsWithB, FromTheName, NotWithA, OnePartAtATime, a_and_b, b_first, from_c, role_r, two_in_a}
use Rattle.join_plan.specs.declared.steps.AccessPath.TheVariants as path
use Rattle.join_plan.specs.declared.steps.Step.{Step}

-- ---- A, A and B

has_term : (a : ShapeAtom) → (k : ℕ) × IsTermOf k a
has_term (shape.Concept c n) = (n, refl)
has_term (shape.Role r n m) = (n, inl refl)

no_name : (k : ℕ) → IsNameTerm a_and_b k → ⊥
no_name zero h = let e = h.1 in cc
no_name (suc zero) h = let e = h.1 in cc
no_name (suc (suc k)) h = let e = h.1 in cc

none_known : (k : ℕ) → IsTermKnown a_and_b [] k → ⊥
none_known k (inl named) = no_name k named
none_known k (inr r) = omega (arith, r.2.1)

b_step : Step
b_step = record { atom = 2; path = path.ScanConcept 1 0 }

a_step : Step
a_step = record { atom = 0; path = path.ProbeConcept 0 0 }

last_step : Step
last_step = record { atom = 1; path = path.ScanConcept 0 1 }

-- only the first term is known behind the first two steps
one_known : (k : ℕ) → IsTermKnown a_and_b (b_step ∷ a_step ∷ []) k → k ≡ 0
unfolding b_step a_step
one_known k (inl named) = absurd (no_name k named)
one_known k (inr r) = by (contains_cases b_step (a_step ∷ []) r.0 r.2)
  where
    first : (a : ShapeAtom) → Some (shape.Concept 1 0) ≡ Some a → IsTermOf k a → k ≡ 0
    first a e t = subst (IsTermOf k) (sym (some_same e)) t

    second : (a : ShapeAtom) → Some (shape.Concept 0 0) ≡ Some a → IsTermOf k a → k ≡ 0
    second a e t = subst (IsTermOf k) (sym (some_same e)) t

    by : (r.0 ≡ b_step) ⊎ Contains (a_step ∷ []) r.0 → k ≡ 0
    by (inl e) = first r.1 (subst (λ (x : Step). slice_get a_and_b.atoms x.atom ≡ Some r.1) e r.3) r.4
    by (inr c) = elim (contains_cases a_step [] r.0 c) [
      | inl e ↦ second r.1 (subst (λ (x : Step). slice_get a_and_b.atoms x.atom ≡ Some r.1) e r.3) r.4
      | inr d ↦ absurd (omega (arith, d.1))
    ]

-- and only the second atom is left
one_left : (place : ℕ) (a : ShapeAtom) → IsLeft a_and_b (b_step ∷ a_step ∷ []) place a → a ≡ shape.Concept 0 1
unfolding b_step a_step
one_left zero a h = absurd (h.1 (contains_later 2 (0 ∷ []) 0 (contains_first 0 [])))
one_left (suc zero) a h = sym (some_same h.0)
one_left (suc (suc zero)) a h = absurd (h.1 (contains_first 2 (0 ∷ [])))
one_left (suc (suc (suc k))) a h = absurd (let e = h.0 in cc)

first_next : IsNextStep a_and_b [] b_step
unfolding b_step
first_next = record {
  atom = shape.Concept 1 0;
  there = refl;
  goes = (refl, none_known 0);
  at_once = λ place a still all. none_known (has_term a).0 (all (has_term a).0 (has_term a).1);
  connected = λ b scans place a still k t is. none_known k is;
}

second_next : IsNextStep a_and_b (b_step ∷ []) a_step
unfolding b_step a_step
second_next = record {
  atom = shape.Concept 0 0;
  there = refl;
  goes = (refl, inr (b_step, shape.Concept 1 0, contains_first b_step [], refl, refl));
  at_once = λ place a still all. tt;
  connected = λ b scans place a still k t is. scans;
}

y_unknown : IsTermKnown a_and_b (b_step ∷ a_step ∷ []) 1 → ⊥
y_unknown h = never 1 refl (one_known 1 h)
  where
    never : (k : ℕ) → k ≡ 1 → k ≡ 0 → ⊥
    never k e f = omega arith

last_next : IsNextStep a_and_b (b_step ∷ a_step ∷ []) last_step
unfolding last_step
last_next = record {
  atom = shape.Concept 0 1;
  there = refl;
  goes = (refl, y_unknown);
  at_once = λ place a still all. y_unknown (all 1 (subst (IsTermOf 1) (sym (one_left place a still)) refl));
  connected = λ b scans place a still k t is. y_unknown (subst (IsTermKnown a_and_b (b_step ∷ a_step ∷ [])) (subst (IsTermOf k) (one_left place a still) t) is);
}

pub begins_with_b : BeginsWithB
unfolding b_step a_step last_step
begins_with_b = record {
  order = record { moves = (1, 2) ∷ (0, 2) ∷ []; below = (omega arith, omega arith, (omega arith, omega arith, tt)); is = refl };
  each = each;
}
  where
    each : (k : ℕ) (step : Step) → slice_get b_first k ≡ Some step → IsNextStep a_and_b (take k b_first) step
    each zero step e = subst (IsNextStep a_and_b []) (some_same e) first_next
    each (suc zero) step e = subst (IsNextStep a_and_b (b_step ∷ [])) (some_same e) second_next
    each (suc (suc zero)) step e = subst (IsNextStep a_and_b (b_step ∷ a_step ∷ [])) (some_same e) last_next
    each (suc (suc (suc k))) step e = absurd cc

-- ---- more is in A than in B

a_then_b : (elem.Named 0) ≢ (elem.Named 1)
a_then_b e = cc

two_distinct : AllPairs (λ (e : Elem) (f : Elem). e ≢ f) (elem.Named 0 ∷ elem.Named 1 ∷ [])
two_distinct zero zero d lt below e = omega arith
two_distinct zero (suc zero) d lt below e = a_then_b e
two_distinct zero (suc (suc j)) d lt below e = omega arith
two_distinct (suc i) zero d lt below e = omega arith
two_distinct (suc i) (suc zero) d lt below e = omega arith
two_distinct (suc i) (suc (suc j)) d lt below e = omega arith

both_in_a : (e : Elem) → Contains (elem.Named 0 ∷ elem.Named 1 ∷ []) e → Contains two_in_a (ConceptRow 0 e)
both_in_a e c = elim (contains_cases (elem.Named 0) (elem.Named 1 ∷ []) e c) [
  | inl same ↦ rw same (0, omega arith, refl)
  | inr d ↦ elim (contains_cases (elem.Named 1) [] e d) [ inl same ↦ rw same (1, omega arith, refl) | inr none ↦ absurd (omega (arith, none.1)) ]
]

only_in_b : (e : Elem) → Contains two_in_a (ConceptRow 1 e) → Contains (elem.Named 0 ∷ []) e
only_in_b e c = elim (contains_cases (ConceptRow 0 (elem.Named 0)) (ConceptRow 0 (elem.Named 1) ∷ ConceptRow 1 (elem.Named 0) ∷ []) (ConceptRow 1 e) c) [
  | inl same ↦ absurd cc
  | inr d ↦ elim (contains_cases (ConceptRow 0 (elem.Named 1)) (ConceptRow 1 (elem.Named 0) ∷ []) (ConceptRow 1 e) d) [
    | inl same ↦ absurd cc
    | inr f ↦ elim (contains_cases (ConceptRow 1 (elem.Named 0)) [] (ConceptRow 1 e) f) [
      | inl same ↦ subst (Contains (elem.Named 0 ∷ [])) (same_element same) (contains_first (elem.Named 0) [])
      | inr none ↦ absurd (omega (arith, none.1))
    ]
  ]
]
  where
    same_element : ConceptRow 1 e ≡ ConceptRow 1 (elem.Named 0) → elem.Named 0 ≡ e
    same_element h = cc

a_is_larger : IsNoLarger two_in_a (basic.Concept 0) (basic.Concept 1) → ⊥
a_is_larger h =
    let two : 2 ≤ length h.counted.members = no_more (elem.Named 0 ∷ elem.Named 1 ∷ []) h.counted.members two_distinct (λ e c. (h.counted.each e).1 (both_in_a e c)) in
    let one : length h.counted_other.members ≤ 1 = no_more h.counted_other.members (elem.Named 0 ∷ []) h.counted_other.distinct (λ e c. only_in_b e ((h.counted_other.each e).0 c)) in
    omega (arith, two, one, h.counted.number, h.counted_other.number, h.order)

pub not_with_a : NotWithA
not_with_a steps least =
    a_is_larger (least 0 (record { atom = 0; path = path.ScanConcept 0 0 }) refl (basic.Concept 0) (basic.Concept 1) 2 (shape.Concept 1 0) (path.ScanConcept 1 0) refl (refl, λ c. omega (arith, c.1)) (refl, none_known 0) refl)

-- ---- from a name

name_known : IsTermKnown from_c [] 0
name_known = inl (codes "c", refl)

x_unknown : IsTermKnown from_c [] 1 → ⊥
x_unknown (inl named) = let e = named.1 in cc
x_unknown (inr r) = omega (arith, r.2.1)

only_atom : (place : ℕ) (a : ShapeAtom) → slice_get from_c.atoms place ≡ Some a → a ≡ shape.Role role_r 0 1
only_atom zero a e = sym (some_same e)
only_atom (suc k) a e = absurd cc

walk_next : IsNextStep from_c [] (record { atom = 0; path = path.WalkEdges role_r 0 1 })
walk_next = record {
  atom = shape.Role role_r 0 1;
  there = refl;
  goes = (inl (refl, refl, refl), name_known, x_unknown);
  at_once = λ place a still all. x_unknown (all 1 (subst (IsTermOf 1) (sym (only_atom place a still.0)) (inr refl)));
  connected = λ b scans place a still k t is. scans;
}

pub from_the_name : FromTheName
from_the_name = (record { order = record { moves = []; below = tt; is = refl }; each = each }, scanned)
  where
    each : (k : ℕ) (step : Step) → slice_get (record { atom = 0; path = path.WalkEdges role_r 0 1 } ∷ []) k ≡ Some step
        → IsNextStep from_c (take k (record { atom = 0; path = path.WalkEdges role_r 0 1 } ∷ [])) step
    each zero step e = subst (IsNextStep from_c []) (some_same e) walk_next
    each (suc k) step e = absurd cc

    scanned : IsPlanOf from_c (record { atom = 0; path = path.ScanRole role_r 0 1 } ∷ []) → ⊥
    scanned plan = (plan.each 0 (record { atom = 0; path = path.ScanRole role_r 0 1 }) refl).goes.1 name_known

-- ---- one part at a time

pub one_part_at_a_time : OnePartAtATime
one_part_at_a_time plan =
    let next = plan.each 1 (record { atom = 2; path = path.ScanConcept 1 2 }) refl in
    next.connected (basic.Concept 1) refl 1 (shape.Role role_r 0 1) (refl, other) 0 (inl refl) (inr (record { atom = 0; path = path.ScanConcept 0 0 }, shape.Concept 0 0, contains_first _ [], refl, refl))
  where
    other : Contains {X = ℕ} (0 ∷ []) 1 → ⊥
    other c = elim (contains_cases 0 [] 1 c) [ inl e ↦ omega arith | inr none ↦ omega (arith, none.1) ]
