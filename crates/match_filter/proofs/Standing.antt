-- One element for each grounded term: behind that of a parent, or one of its own.
use Rattle.std.proofs.Common.{◌≡◌, ℕ, ◌<◌, inl, inr, refl, sym, ◌∙◌}
use Rattle.dl_base.specs.Unfolding.{Element, Next}
use Rattle.dl_base.specs.declared.concept.Role.{Role}
use Rattle.query_shape.proofs.MatchList.{Decided}
use Rattle.match_filter.specs.Joining.{Joined, turned, through, parents, IsGrounded, ground}

-- a parent of a term that is joined to this one
abbrev pub HasParent : (ℕ → ℕ → Type 0) → ℕ → Type 0
HasParent Link k = (p : ℕ) × (c : ℕ) × Link p c × Joined Link c k

-- the term is on this element
pub data Stands (Link : ℕ → ℕ → Type 0) (role_at : ℕ → Role) (root_at : ℕ → Element) : ℕ → Element → Type 0 where
  root : {k : ℕ} {e : Element} → (HasParent Link k → ⊥) → e ≡ root_at k → Stands Link role_at root_at k e
  behind : {k p c : ℕ} {e : Element} → Link p c → Joined Link c k → Stands Link role_at root_at p e → Stands Link role_at root_at k (Next e (role_at k))

module _ (Link : ℕ → ℕ → Type 0) (role_at : ℕ → Role) (root_at : ℕ → Element) (count : ℕ) (within : (p c : ℕ) → Link p c → (p < count) × (c < count)) where
  -- each grounded term is on an element
  pub standing : ((k : ℕ) → k < count → Decided (HasParent Link k)) → (k : ℕ) → k < count → IsGrounded Link k → (e : Element) × Stands Link role_at root_at k e
  standing decide k lt (ground above) = by (decide k lt) (λ p c link joined. standing decide p (within p c link).0 (above p c link joined))
    where
      by : Decided (HasParent Link k) → ((p c : ℕ) → Link p c → Joined Link c k → (e : Element) × Stands Link role_at root_at p e) → (e : Element) × Stands Link role_at root_at k e
      by (inl (p, c, link, joined)) rec = let parent : (e : Element) × Stands Link role_at root_at p e = rec p c link joined in (Next parent.0 (role_at k), behind link joined parent.1)
      by (inr none) rec = (root_at k, root none refl)

  -- joined terms are on one element
  pub one_standing : ((j k : ℕ) → j < count → k < count → Joined Link j k → role_at j ≡ role_at k) → ((j k : ℕ) → j < count → k < count → Joined Link j k → root_at j ≡ root_at k)
      → {j k : ℕ} {e f : Element} → Stands Link role_at root_at j e → Stands Link role_at root_at k f → j < count → k < count → Joined Link j k → e ≡ f
  one_standing roles roots {j} {k} (root alone is) (root other also) at_j at_k joined = is ∙ (roots j k at_j at_k joined ∙ sym also)
  one_standing roles roots {j} {k} (root alone is) (behind {p} {c} link under st) at_j at_k joined = absurd (alone (p, c, link, through under (turned joined)))
  one_standing roles roots {j} {k} (behind {p} {c} link under st) (root alone is) at_j at_k joined = absurd (alone (p, c, link, through under joined))
  one_standing roles roots {j} {k} (behind {p = p} {c = c} {e = e} link under st) (behind {p = q} {c = d} {e = f} other also stq) at_j at_k joined =
      let above : e ≡ f = one_standing roles roots st stq (within p c link).0 (within q d other).0 (parents link other (through under (through joined (turned also)))) in
      let last : role_at j ≡ role_at k = roles j k at_j at_k joined in
      λ i. Next (above i) (last i)
