-- What a placing on short elements says of the links and joins among its terms.
use Rattle.std.proofs.Common.{◌≡◌, ◌≢◌, ℕ, zero, suc, ◌<◌, inl, inr, List, length, Some, slice_get, AllPairs, Contains, refl, sym, ◌∙◌, subst, ap, arith}
use Rattle.dl_base.specs.Ontology.{Terminology}
use Rattle.dl_base.specs.Derivation.{inverse}
use Rattle.dl_base.specs.Unfolding.{Element, Named, Next, Edge}
use Rattle.dl_base.specs.Completion.{Represents}
use Rattle.dl_base.specs.ShortUnfolding.{IsShort, node_of}
use Rattle.dl_base.specs.declared.concept.Role.{Role}
use Rattle.dl_base.specs.declared.element.Elem.{Elem}
use Rattle.dl_base.specs.declared.element.Elem.TheVariants as elem
use Rattle.dl_base.specs.declared.row.NamedRow.{NamedRow}
use Rattle.dl_base.proofs.RoleLemmas.{inverse_twice}
use Rattle.dl_base.proofs.ShortLemmas.{elem_once}
use Rattle.query_shape.specs.Shape.{IsBelow}
use Rattle.query_shape.specs.Lifting.{HoldsOn}
use Rattle.query_shape.specs.declared.layout.ShapeAtom.{ShapeAtom}
use Rattle.query_shape.specs.declared.layout.ShapeAtom.TheVariants as shape
use Rattle.match_filter.specs.Links.{IsLinkOf, IsLink}
use Rattle.query_shape.specs.TreeWitness.{IsOn}
use Rattle.match_filter.specs.Joining.{Joined, itself, turned, through, parents, IsGrounded, ground, Agree}

-- the element that one extends
before : Element → Element
before (Named a) = Named a
before (Next e r) = e

-- how many roles it has
depth : Element → ℕ
depth (Named a) = 0
depth (Next e r) = suc (depth e)

depth_next : (e : Element) (r : Role) → depth (Next e r) ≡ suc (depth e)
unfolding depth
depth_next e r = refl

next_before : (e f : Element) (r s : Role) → Next e r ≡ Next f s → e ≡ f
unfolding before
next_before e f r s is = ap before is

module _ (o : Terminology) (rows : List NamedRow) (names : List (List ℕ)) (generation : Role → ℕ) (images : List Elem) (atoms : List ShapeAtom) (place : ℕ → Element)
    (below : (a : ShapeAtom) → Contains atoms a → IsBelow (length images) a)
    (short : (k : ℕ) → k < length images → IsShort o rows (place k))
    (folds : (k : ℕ) (e : Elem) → slice_get images k ≡ Some e → Represents names generation e (node_of (place k)))
    (holds : (a : ShapeAtom) → Contains atoms a → HoldsOn o rows place a) where
  -- a term on a witness is placed on an element that ends in the witness's role
  on_next : (r : Role) (k : ℕ) → IsOn images r k → (e : Element) × (place k ≡ Next e r)
  on_next r k (w, at, is) = by (place k) refl (folds k (elem.Shared w) at)
    where
      by : (x : Element) → place k ≡ x → Represents names generation (elem.Shared w) (node_of x) → (e : Element) × (place k ≡ Next e r)
      by (Named a) e rep = absurd rep
      by (Next x s) e rep = (x, e ∙ ap (Next x) (sym rep.0 ∙ is))

  -- a short element doesn't go back the way that it came
  no_return : (n : ℕ) (e : Element) (r s : Role) → n < length images → place n ≡ Next (Next e r) s → s ≡ inverse r → ⊥
  no_return n e r s lt is back = let extended : IsShort o rows (Next (Next e r) s) = subst (IsShort o rows) is (short n lt) in extended.1.not_back back

  down : (r : Role) (n m : ℕ) → n < length images → IsOn images r m → Edge o rows r (place n) (place m) → place m ≡ Next (place n) r
  down r n m lt on = by (on_next r m on)
    where
      by : (e : Element) × (place m ≡ Next e r) → Edge o rows r (place n) (place m) → place m ≡ Next (place n) r
      by (e, is) (inl row) = absurd (let named : Next e r ≡ Named row.to = sym is ∙ row.to_is in cc)
      by (e, is) (inr (inl found)) = found
      by (e, is) (inr (inr back)) = absurd (no_return n e r (inverse r) lt (back ∙ ap (λ x. Next x (inverse r)) is) refl)

  up : (r : Role) (n m : ℕ) → m < length images → IsOn images (inverse r) n → Edge o rows r (place n) (place m) → place n ≡ Next (place m) (inverse r)
  up r n m lt on = by (on_next (inverse r) n on)
    where
      by : (e : Element) × (place n ≡ Next e (inverse r)) → Edge o rows r (place n) (place m) → place n ≡ Next (place m) (inverse r)
      by (e, is) (inl row) = absurd (let named : Next e (inverse r) ≡ Named row.from = sym is ∙ row.from_is in cc)
      by (e, is) (inr (inl found)) = absurd (no_return m e (inverse r) r lt (found ∙ ap (λ x. Next x r) is) (sym (inverse_twice r)))
      by (e, is) (inr (inr back)) = back

  -- a child is placed behind its parent
  link_of_next : (a : ShapeAtom) → Contains atoms a → (p c : ℕ) → IsLinkOf images a p c → (r : Role) × (place c ≡ Next (place p) r)
  link_of_next (shape.Concept d n) there p c l = absurd l
  link_of_next (shape.Role r n m) there p c (inl (p_is, c_is, on)) =
      (r, ap place c_is ∙ (down r n m (below (shape.Role r n m) there).0 on (holds (shape.Role r n m) there) ∙ ap (λ k. Next (place k) r) (sym p_is)))
  link_of_next (shape.Role r n m) there p c (inr (p_is, c_is, off, on)) =
      (inverse r, ap place c_is ∙ (up r n m (below (shape.Role r n m) there).1 on (holds (shape.Role r n m) there) ∙ ap (λ k. Next (place k) (inverse r)) (sym p_is)))

  link_next : (p c : ℕ) → IsLink images atoms p c → (r : Role) × (place c ≡ Next (place p) r)
  link_next p c (a, there, l) = link_of_next a there p c l

  -- joined terms have one place
  joined_same : {j k : ℕ} → Joined (IsLink images atoms) j k → place j ≡ place k
  joined_same itself = refl
  joined_same (turned x) = sym (joined_same x)
  joined_same (through x y) = joined_same x ∙ joined_same y
  joined_same (parents {p} {c} {q} {d} l m x) =
      let first = link_next p c l in
      let second = link_next q d m in
      next_before (place p) (place q) first.0 second.0 (sym first.1 ∙ (joined_same x ∙ second.1))

  -- so they have one image
  pub placed_agree : AllPairs (λ x y. x ≢ y) names → Agree (IsLink images atoms) images
  placed_agree distinct j k e f at_j at_k joined =
      elem_once names generation distinct e f (node_of (place k)) (subst (λ (x : Element). Represents names generation e (node_of x)) (joined_same joined) (folds j e at_j)) (folds k f at_k)

  -- a parent's place is less deep
  grounded_under : (n k : ℕ) → depth (place k) < n → IsGrounded (IsLink images atoms) k
  grounded_under zero k deep = absurd (omega arith)
  grounded_under (suc n) k deep = ground (λ p c link joined. grounded_under n p (less p c link joined))
    where
      less : (p c : ℕ) → IsLink images atoms p c → Joined (IsLink images atoms) c k → depth (place p) < n
      less p c link joined =
          let next = link_next p c link in
          let one : depth (place c) ≡ suc (depth (place p)) = ap depth next.1 ∙ depth_next (place p) next.0 in
          let same : depth (place c) ≡ depth (place k) = ap depth (joined_same joined) in
          omega arith

  pub placed_grounded : (k : ℕ) → IsGrounded (IsLink images atoms) k
  placed_grounded k = grounded_under (suc (depth (place k))) k (omega arith)
