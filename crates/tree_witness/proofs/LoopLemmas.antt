-- Lists that are gone through place by place.
use Rattle.std.proofs.Common.{◌≡◌, ℕ, ◌+◌, ◌<◌, ◌≤◌, ◌⊎◌, inl, inr, List, length, get_or, Some, slice_get, Contains, sym, ◌∙◌, ap, subst, arith}
use Rattle.std.specs.Prelude.{◌↔◌}
use Rattle.std.proofs.lemmas.Option.{same_Some, slice_get-get_or}
use Rattle.dl_base.proofs.PlaceLemmas.{place_of}

-- one place more
pub up_to_more : {X : Type 0} (P : X → Type 0) (xs : List X) (i : ℕ) (x : X) → slice_get xs i ≡ Some x → ((k : ℕ) (y : X) → k < i → slice_get xs k ≡ Some y → P y) → P x
    → (k : ℕ) (y : X) → k < i + 1 → slice_get xs k ≡ Some y → P y
up_to_more {X} P xs i x at_i before here k y lt at = by (grind arith)
  where
    by : (k < i) ⊎ (k ≡ i) → P y
    by (inl less) = before k y less at
    by (inr is) = subst P (same_Some x y (sym at_i ∙ (ap (slice_get xs) (sym is) ∙ at))) here

-- all places
pub up_to_all : {X : Type 0} (P : X → Type 0) (xs : List X) (i : ℕ) → length xs ≤ i → ((k : ℕ) (y : X) → k < i → slice_get xs k ≡ Some y → P y) → (y : X) → Contains xs y → P y
up_to_all P xs i most before y there = before there.0 y (omega (arith, there.1)) (place_of xs y there)

-- what stands at two places is the same where it is read so
pub same_get : {X : Type 0} (xs : List X) (i j : ℕ) (d : X) → i < length xs → j < length xs → (get_or xs i d ≡ get_or xs j d) ↔ (slice_get xs i ≡ slice_get xs j)
same_get xs i j d lt_i lt_j = (
  λ same. slice_get-get_or xs i d lt_i ∙ (ap Some same ∙ sym (slice_get-get_or xs j d lt_j)),
  λ same. same_Some (get_or xs i d) (get_or xs j d) (sym (slice_get-get_or xs i d lt_i) ∙ (same ∙ slice_get-get_or xs j d lt_j)),
)
