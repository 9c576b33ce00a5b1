-- Roles: their two sides, their inverses, and whether two are one.
use Rattle.std.proofs.Common.{◌≡◌, ◌≢◌, ℕ, ◌⊎◌, inl, inr, Bool, true, false, refl, ap}
use Rattle.std.proofs.Math.Bool.{not-not}
use Rattle.std.proofs.lemmas.Bool.{cases_eq}
use Rattle.dl_base.specs.Derivation.{inverse}
use Rattle.dl_base.specs.declared.concept.Role.{Role}
use Rattle.dl_base.specs.declared.concept.Basic.TheVariants as basic

-- a role is the direct one of its name or the inverse
pub direct_or_inverse : (r : Role) (n : ℕ) → r.name ≡ n → (r ≡ record { name = n; inverse = false }) ⊎ (r ≡ record { name = n; inverse = true })
direct_or_inverse r n same = by r.inverse refl
  where
    by : (t : Bool) → r.inverse ≡ t → (r ≡ record { name = n; inverse = false }) ⊎ (r ≡ record { name = n; inverse = true })
    by false e = inl (λ j. record { name = same j; inverse = e j })
    by true e = inr (λ j. record { name = same j; inverse = e j })

-- the inverse of an inverse is the role itself
pub inverse_twice : (r : Role) → inverse (inverse r) ≡ r
inverse_twice r = λ j. record { name = r.name; inverse = not-not r.inverse j }

-- having a successor by one role is having one by the other only where the roles are one
pub same_role : (r s : Role) → basic.Exists r ≡ basic.Exists s → r ≡ s
same_role r s e = cc

same_side : (i j : Bool) → (i ≡ j) ⊎ (i ≢ j)
same_side true true = inl refl
same_side false false = inl refl
same_side true false = inr (λ e. cc)
same_side false true = inr (λ e. cc)

-- two roles are one, or they aren't
pub one_role_or_two : (r s : Role) → (r ≡ s) ⊎ (r ≢ s)
one_role_or_two r s = by (cases_eq r.name s.name) (same_side r.inverse s.inverse)
  where
    by : (r.name ≡ s.name) ⊎ (r.name ≡ s.name → ⊥) → (r.inverse ≡ s.inverse) ⊎ (r.inverse ≢ s.inverse) → (r ≡ s) ⊎ (r ≢ s)
    by (inl e) (inl f) = inl (λ j. record { name = e j; inverse = f j })
    by (inl e) (inr never) = inr (λ g. never (ap (λ (x : Role). x.inverse) g))
    by (inr never) side = inr (λ g. never (ap (λ (x : Role). x.name) g))
