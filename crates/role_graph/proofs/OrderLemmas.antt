-- The least of some roles in role order.
use Rattle.std.proofs.Common.{◌≡◌, ◌≢◌, ℕ, suc, ◌+◌, ◌<◌, ◌⊎◌, inl, inr, List, [], ◌∷◌, ◌++◌, Contains, Option, Some, None, refl, sym, ◌∙◌, ap, subst, arith}
use Rattle.std.specs.declared.cmp.Ordering.{Ordering}
use Rattle.std.specs.declared.cmp.Ordering.TheVariants.{Less, Equal, Greater}
use Rattle.std.proofs.lemmas.List.Elements.{Contains-append_left, Contains-push}
use Rattle.dl_base.specs.Clashes.{role_cmp}
use Rattle.dl_base.specs.Ontology.{Terminology}
use Rattle.dl_base.specs.declared.concept.Role.{Role}
use Rattle.dl_base.proofs.RowLemmas.{contains_cut}
use Rattle.dl_base.proofs.ClashLemmas.{role_total}
use Rattle.std.specs.Cmp.{IsTotalOrder}
use Rattle.std.specs.Ordering.{ordering_reverse}
use Rattle.std.proofs.lemmas.Cmp.{tied_itself}
use Rattle.role_graph.specs.Order.{IsLeastRole, IsLesser}

-- what isn't after what isn't after
module _ {X : Type 0} (cmp : X → X → Ordering) (total : IsTotalOrder cmp) where
  -- where y isn't before x, x isn't after y
  pub turned_round : (x y : X) → cmp y x ≢ Less → cmp x y ≢ Greater
  turned_round x y not_less greater =
      let back : cmp y x ≡ ordering_reverse Greater = rw greater at (total.antisymm y x) in not_less back

  pub before_both : (x y z : X) → cmp x y ≡ Less → cmp y z ≢ Greater → cmp x z ≢ Greater
  before_both x y z less not_after = by (cmp y z) refl
    where
      by : (r : Ordering) → cmp y z ≡ r → cmp x z ≢ Greater
      by Less e greater = let both = total.trans x y z less e in absurd (let f : Less ≡ Greater = sym both ∙ greater in cc)
      by Equal e greater =
          let back : cmp z y ≡ Equal = rw e at (total.antisymm z y) in
          let same : cmp z x ≡ cmp y x = total.congr z y x back in
          let turned : cmp z x ≡ ordering_reverse Greater = rw greater at (total.antisymm z x) in
          let less_back : cmp y x ≡ ordering_reverse Less = rw less at (total.antisymm y x) in
          absurd (let f : Less ≡ Greater = sym turned ∙ same ∙ less_back in cc)
      by Greater e greater = not_after e

-- a role compares as equal with itself
pub role_itself : (o : Terminology) (r : Role) → role_cmp o r r ≡ Equal
role_itself o r = tied_itself (role_total o) r

-- the least of the roles in front of a place for which P holds
abbrev pub LeastSoFar : Terminology → (Role → Type 0) → List Role → Option Role → Type 0
LeastSoFar o P front = IsLeastRole o (λ s. Contains front s × P s)

module _ (o : Terminology) (P : Role → Type 0) where
  pub least_none : LeastSoFar o P [] None
  least_none s h = absurd (let below = h.0.1 in omega arith)

  -- one more, for which P doesn't hold
  pub least_passed : (front : List Role) (s : Role) (least : Option Role) → (P s → ⊥) → LeastSoFar o P front least → LeastSoFar o P (front ++ s ∷ []) least
  least_passed front s None not is = λ r h. let has = h.0 in let p = h.1 in elim (contains_cut front s r has) [
    | inl here ↦ absurd (not (subst P here p))
    | inr old ↦ is r (old, p)
  ]
  least_passed front s (Some t) not is = (
    (Contains-append_left front (s ∷ []) t is.0.0, is.0.1),
    λ r h. elim (contains_cut front s r h.0) [
      | inl here ↦ absurd (not (subst P here h.1))
      | inr old ↦ is.1 r (old, h.1)
    ],
  )

  not_after_itself : (s : Role) → role_cmp o s s ≢ Greater
  not_after_itself s greater = absurd (let e : Equal ≡ Greater = sym (role_itself o s) ∙ greater in cc)

  -- one more, for which P holds
  pub least_found : (front : List Role) (s : Role) (least : Option Role) (new : Role) → P s → IsLesser o least s new → LeastSoFar o P front least → LeastSoFar o P (front ++ s ∷ []) (Some new)
  least_found front s None new p same is = subst (λ (t : Role). LeastSoFar o P (front ++ s ∷ []) (Some t)) (sym same) (
    (Contains-push front s, p),
    λ r h. elim (contains_cut front s r h.0) [
      | inl here ↦ subst (λ (t : Role). role_cmp o s t ≢ Greater) (sym here) (not_after_itself s)
      | inr old ↦ absurd (is r (old, h.1))
    ],
  )
  least_found front s (Some t) new p (inl (same, before)) is = subst (λ (u : Role). LeastSoFar o P (front ++ s ∷ []) (Some u)) (sym same) (
    (Contains-append_left front (s ∷ []) t is.0.0, is.0.1),
    λ r h. elim (contains_cut front s r h.0) [
      | inl here ↦ subst (λ (u : Role). role_cmp o t u ≢ Greater) (sym here) before
      | inr old ↦ is.1 r (old, h.1)
    ],
  )
  least_found front s (Some t) new p (inr (same, less)) is = subst (λ (u : Role). LeastSoFar o P (front ++ s ∷ []) (Some u)) (sym same) (
    (Contains-push front s, p),
    λ r h. elim (contains_cut front s r h.0) [
      | inl here ↦ subst (λ (u : Role). role_cmp o s u ≢ Greater) (sym here) (not_after_itself s)
      | inr old ↦ before_both (role_cmp o) (role_total o) s t r less (is.1 r (old, h.1))
    ],
  )
