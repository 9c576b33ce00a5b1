-- Terms that stop waiting one after another.
use Rattle.std.proofs.Common.{◌≡◌, ℕ, zero, suc, ◌<◌, ◌⊎◌, inl, inr, Bool, true, false, List, [], ◌∷◌, set, Option, Some, None, slice_index, slice_index_or, refl, sym, ap, subst}
use Rattle.match_filter.specs.Joining.{Joined, AreClasses, IsGrounded, ground, WaitsAbove, IsFree, NoneIsFree}
use Rattle.match_filter.specs.declared.link.Link.{Link}

-- where it is a link to a child of this number, its parent doesn't wait
abbrev pub IsNotWaiting : List ℕ → List Bool → ℕ → Option Link → Type 0
IsNotWaiting classes waiting class None = Unit {0}
IsNotWaiting classes waiting class (Some l) = slice_index classes l.child ≡ class → slice_index_or waiting l.parent false ≡ true → ⊥

-- those that don't wait once one more has stopped
stops_waiting : (waiting : List Bool) (term k : ℕ) → slice_index_or (set waiting term false) k false ≡ false → (k ≡ term) ⊎ (slice_index_or waiting k false ≡ false)
stops_waiting [] term k is = inr is
stops_waiting (b ∷ bs) zero zero is = inl refl
stops_waiting (b ∷ bs) zero (suc k) is = inr is
stops_waiting (b ∷ bs) (suc term) zero is = inr is
stops_waiting (b ∷ bs) (suc term) (suc k) is = by (stops_waiting bs term k is)
  where
    by : (k ≡ term) ⊎ (slice_index_or bs k false ≡ false) → (suc k ≡ suc term) ⊎ (slice_index_or bs k false ≡ false)
    by (inl e) = inl (ap suc e)
    by (inr f) = inr f

module _ (Link : ℕ → ℕ → Type 0) (classes : List ℕ) (within : (p c : ℕ) → Link p c → (p < 24) × (c < 24)) (are : AreClasses Link classes) where
  -- a free term is grounded
  free_grounded : (waiting : List Bool) (k : ℕ) → IsFree Link classes waiting k → ((j : ℕ) → j < 24 → slice_index_or waiting j false ≡ false → IsGrounded Link j) → IsGrounded Link k
  free_grounded waiting k free before = ground (λ p c link joined. by p c link joined (slice_index_or waiting p false) refl)
    where
      by : (p c : ℕ) → Link p c → Joined Link c k → (b : Bool) → slice_index_or waiting p false ≡ b → IsGrounded Link p
      by p c link joined false is = before p (within p c link).0 is
      by p c link joined true is = absurd (free.none_above (p, c, link, (are c k (within p c link).1 free.below).1 joined, is))

  pub freed_grounded : (waiting : List Bool) (term : ℕ) → IsFree Link classes waiting term → ((j : ℕ) → j < 24 → slice_index_or waiting j false ≡ false → IsGrounded Link j)
      → (k : ℕ) → k < 24 → slice_index_or (set waiting term false) k false ≡ false → IsGrounded Link k
  freed_grounded waiting term free before k lt is = by (stops_waiting waiting term k is)
    where
      by : (k ≡ term) ⊎ (slice_index_or waiting k false ≡ false) → IsGrounded Link k
      by (inl same) = subst (IsGrounded Link) (sym same) (free_grounded waiting term free before)
      by (inr was) = before k lt was

  -- a term that waits where all are stuck isn't grounded
  pub stuck_not_grounded : (waiting : List Bool) → NoneIsFree Link classes waiting → {k : ℕ} → IsGrounded Link k → k < 24 → slice_index_or waiting k false ≡ true → ⊥
  stuck_not_grounded waiting stuck {k} (ground above) lt waits = by (stuck k lt waits) (λ p c link joined. stuck_not_grounded waiting stuck (above p c link joined))
    where
      by : WaitsAbove Link classes waiting (slice_index classes k) → ((p c : ℕ) → Link p c → Joined Link c k → p < 24 → slice_index_or waiting p false ≡ true → ⊥) → ⊥
      by (p, c, link, same, is) rec = rec p c link ((are c k (within p c link).1 lt).0 same) (within p c link).0 is

  -- at the end all are grounded exactly where none waits
  pub end_grounded : (waiting : List Bool) → NoneIsFree Link classes waiting → ((k : ℕ) → k < 24 → IsGrounded Link k) → (k : ℕ) → k < 24 → slice_index_or waiting k false ≡ false
  end_grounded waiting stuck all k lt = by (slice_index_or waiting k false) refl
    where
      by : (b : Bool) → slice_index_or waiting k false ≡ b → slice_index_or waiting k false ≡ false
      by false is = is
      by true is = absurd (stuck_not_grounded waiting stuck (all k lt) lt is)
