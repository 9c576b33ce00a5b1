-- Small tree witnesses.
use Rattle.std.proofs.Common.{◌≡◌, ◌≢◌, ℕ, ◌⊎◌, inl, inr, List, [], ◌∷◌, Some, slice_get, Contains, true≢false, refl, sym, ◌∙◌, ap, subst, arith}
use Rattle.std.proofs.lemmas.Option.{same_Some}
use Rattle.dl_base.specs.Derivation.{inverse}
use Rattle.dl_base.specs.declared.concept.Role.{Role}
use Rattle.dl_base.specs.declared.element.Elem.{Elem}
use Rattle.dl_base.specs.declared.element.Elem.TheVariants as elem
use Rattle.dl_base.proofs.RisingLemmas.{contains_cases}
use Rattle.query_shape.specs.declared.layout.ShapeAtom.TheVariants as shape
use Rattle.query_shape.specs.TreeWitness.{IsOriented, TreeWitness, top, first, back, further, HasTreeWitness, TopsAgree}
use Rattle.tree_witness.specs.TreeLaws.{role_r, role_s, LoopHasNone, BackAtTheTop, two_parents, around, SharedIsNoJoin, OneIsBoth}

pub loop_has_none : LoopHasNone
loop_has_none has = let same : [] ≡ role_r ∷ [] = has 0 [] (role_r ∷ []) (top refl) (first (top refl) (inl (0, omega arith, refl))) in cc

not_back : role_s ≢ inverse role_r
not_back is = differ (ap (λ (q : Role). q.name) is)
  where
    differ : role_s.name ≡ role_r.name → ⊥
    differ same = omega arith

pub back_at_the_top : BackAtTheTop
back_at_the_top = back (back (further (first (top refl) (inl (0, omega arith, refl))) (inl (1, omega arith, refl)) not_back) (inr (role_s, refl, (2, omega arith, refl)))) (inr (role_r, refl, (3, omega arith, refl)))

-- z stands at the top beside x
beside : TreeWitness two_parents role_r 0 2 []
beside = back (first (top refl) (inl (0, omega arith, refl))) (inr (role_r, refl, (1, omega arith, refl)))

abbrev number : Elem → ℕ
number (elem.Named n) = n
number (elem.Shared w) = 0

pub shared_is_no_join : SharedIsNoJoin
shared_is_no_join passes = differ (ap number (same_Some (elem.Named 1) (elem.Named 0) ((passes role_r 0 1 (inl (0, omega arith, refl)) (record { role = role_r; generation = 1 }, refl, refl)).1 2 beside)))
  where
    differ : number (elem.Named 1) ≡ number (elem.Named 0) → ⊥
    differ same = omega arith

-- ---- one individual as both parents

-- a term is one of the parents
abbrev IsParent : ℕ → Type 0
IsParent s = (s ≡ 0) ⊎ (s ≡ 2)

-- the atoms lead by r from the parents to the child, and back
abbrev IsEither : Role → ℕ → ℕ → Type 0
IsEither p s u = ((p ≡ role_r) × IsParent s × (u ≡ 1)) ⊎ ((p ≡ inverse role_r) × (s ≡ 1) × IsParent u)

of_two : (q : Role) (s u : ℕ) → Contains two_parents (shape.Role q s u) → (q ≡ role_r) × IsParent s × (u ≡ 1)
of_two q s u there = by (contains_cases (shape.Role role_r 0 1) (shape.Role role_r 2 1 ∷ []) (shape.Role q s u) there)
  where
    later : (shape.Role q s u ≡ shape.Role role_r 2 1) ⊎ Contains [] (shape.Role q s u) → (q ≡ role_r) × IsParent s × (u ≡ 1)
    later (inl is) = (cc, inr cc, cc)
    later (inr c) = absurd (omega (arith, c.1))

    by : (shape.Role q s u ≡ shape.Role role_r 0 1) ⊎ Contains (shape.Role role_r 2 1 ∷ []) (shape.Role q s u) → (q ≡ role_r) × IsParent s × (u ≡ 1)
    by (inl is) = (cc, inl cc, cc)
    by (inr c) = later (contains_cases (shape.Role role_r 2 1) [] (shape.Role q s u) c)

either : (p : Role) (s u : ℕ) → IsOriented two_parents p s u → IsEither p s u
either p s u (inl there) = inl (of_two p s u there)
either p s u (inr (q, is, there)) = let found = of_two q u s there in inr (is ∙ ap inverse found.0, found.2, found.1)

one_way : role_r ≢ inverse role_r
one_way is = true≢false (sym (ap (λ (q : Role). q.inverse) is))

-- where the terms stand: the parents at the top, and the child one role below
abbrev StandsAt : ℕ → List Role → Type 0
StandsAt s [] = IsParent s
StandsAt s (q ∷ w) = (s ≡ 1) × (q ≡ role_r) × (w ≡ [])

module _ (t : ℕ) (parent : IsParent t) where
  no_parent : {s : ℕ} → s ≡ 1 → IsParent s → ⊥
  no_parent is (inl zeroth) = omega arith
  no_parent is (inr second) = omega arith

  stands : {s : ℕ} {w : List Role} → TreeWitness two_parents role_r t s w → StandsAt s w
  stands (top is) = subst IsParent (sym is) parent
  stands (first {s} {u} h atom) = elim (either role_r s u atom) [
    | inl down ↦ (down.2, refl, refl)
    | inr up ↦ absurd (one_way up.0)
  ]
  stands (back {s} {u} {q} {w} h atom) = elim (either (inverse q) s u atom) [
    | inl down ↦ absurd (no_parent (stands h).0 down.1)
    | inr up ↦ subst (StandsAt u) (sym (stands h).2) up.2
  ]
  stands (further {s} {u} {p} {q} {w} h atom other) = elim (either p s u atom) [
    | inl down ↦ absurd (no_parent (stands h).0 down.1)
    | inr up ↦ absurd (other (up.0 ∙ ap inverse (sym (stands h).1)))
  ]

  one_list_at : (s : ℕ) (v w : List Role) → StandsAt s v → StandsAt s w → v ≡ w
  one_list_at s [] [] a b = refl
  one_list_at s [] (q ∷ w) a b = absurd (no_parent b.0 a)
  one_list_at s (p ∷ v) [] a b = absurd (no_parent a.0 b)
  one_list_at s (p ∷ v) (q ∷ w) a b = λ i. (a.1 ∙ sym b.1) i ∷ (a.2 ∙ sym b.2) i

parent_image : (s : ℕ) → IsParent s → slice_get (around role_r 0) s ≡ Some (elem.Named 0)
parent_image s (inl is) = ap (slice_get (around role_r 0)) is
parent_image s (inr is) = ap (slice_get (around role_r 0)) is

pub one_is_both : OneIsBoth
one_is_both r t u atom on = by (either r t u atom)
  where
    by : IsEither r t u → HasTreeWitness two_parents r t × TopsAgree two_parents (around role_r 0) r t
    by (inl (is, parent, child)) =
        subst (λ (p : Role). HasTreeWitness two_parents p t × TopsAgree two_parents (around role_r 0) p t) (sym is)
        (λ s v w a b. one_list_at t parent s v w (stands t parent a) (stands t parent b), λ s h. parent_image s (stands t parent h) ∙ sym (parent_image t parent))
    by (inr (is, child, parent)) = absurd (let named : Some (elem.Named 0) ≡ Some (elem.Shared on.0) = sym (parent_image u parent) ∙ on.1 in cc)
