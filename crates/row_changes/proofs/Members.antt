-- Whether something is a member of a list.
use Rattle.std.proofs.Common.{◌≡◌, ◌⊎◌, inl, inr, List, [], ◌∷◌, Contains, refl, sym, ◌∙◌, subst, arith}
use Rattle.std.specs.Cmp.{IsTotalOrder}
use Rattle.std.specs.declared.cmp.Ordering.{Ordering}
use Rattle.std.specs.declared.cmp.Ordering.TheVariants.{Less, Equal, Greater}
use Rattle.std.proofs.lemmas.Cmp.{tied_itself}
use Rattle.dl_base.proofs.RisingLemmas.{contains_cases, contains_first, contains_later}

module _ {X : Type 0} (cmp : X → X → Ordering) (total : IsTotalOrder cmp) (same : (x y : X) → cmp x y ≡ Equal → x ≡ y) where
  pub same_or_not : (x y : X) → (x ≡ y) ⊎ (x ≡ y → ⊥)
  same_or_not x y = by (cmp x y) refl
    where
      tied : x ≡ y → cmp x y ≡ Equal
      tied e = subst (λ (z : X). cmp x z ≡ Equal) e (tied_itself total x)

      by : (o : Ordering) → cmp x y ≡ o → (x ≡ y) ⊎ (x ≡ y → ⊥)
      by Less e = inr (λ s. (let f : Equal ≡ Less = sym (tied s) ∙ e in cc))
      by Equal e = inl (same x y e)
      by Greater e = inr (λ s. (let f : Equal ≡ Greater = sym (tied s) ∙ e in cc))

  pub member_or_not : (xs : List X) (x : X) → Contains xs x ⊎ (Contains xs x → ⊥)
  member_or_not [] x = inr (λ c. omega (arith, c.1))
  member_or_not (y ∷ ys) x = by (same_or_not x y) (member_or_not ys x)
    where
      by : (x ≡ y) ⊎ (x ≡ y → ⊥) → Contains ys x ⊎ (Contains ys x → ⊥) → Contains (y ∷ ys) x ⊎ (Contains (y ∷ ys) x → ⊥)
      by (inl e) rest = inl (subst (Contains (y ∷ ys)) (sym e) (contains_first y ys))
      by (inr other) (inl c) = inl (contains_later y ys x c)
      by (inr other) (inr none) = inr (λ c. elim (contains_cases y ys x c) [ inl e ↦ other e | inr d ↦ none d ])
