-- What a placing on short elements says of tree witnesses.
use Rattle.std.proofs.Common.{◌≡◌, ◌≢◌, ℕ, ◌<◌, inl, inr, List, [], ◌∷◌, ◌++◌, reverse, length, get_or, Some, slice_get, AllPairs, Contains, refl, sym, ◌∙◌, subst, ap, append_assoc}
use Rattle.std.proofs.lemmas.List.{append-nil, append_cancel_left, reverse-append, reverse-reverse}
use Rattle.std.proofs.lemmas.Option.{slice_get-get_or}
use Rattle.dl_base.specs.Ontology.{Terminology}
use Rattle.dl_base.specs.Derivation.{inverse}
use Rattle.dl_base.specs.Clashes.{path_of}
use Rattle.dl_base.specs.Unfolding.{Element, Named, Next, Edge}
use Rattle.dl_base.specs.Completion.{Represents}
use Rattle.dl_base.specs.ShortUnfolding.{IsShort, node_of}
use Rattle.dl_base.specs.declared.concept.Role.{Role}
use Rattle.dl_base.specs.declared.element.Elem.{Elem}
use Rattle.dl_base.specs.declared.element.Elem.TheVariants as elem
use Rattle.dl_base.specs.declared.row.NamedRow.{NamedRow}
use Rattle.dl_base.proofs.EdgeLemmas.{edge_back}
use Rattle.dl_base.proofs.RoleLemmas.{inverse_twice}
use Rattle.dl_base.proofs.ShortLemmas.{elem_once}
use Rattle.query_shape.specs.Shape.{IsBelow}
use Rattle.query_shape.specs.Lifting.{HoldsOn}
use Rattle.query_shape.specs.TreeWitness.{IsOn, IsOriented, TreeWitness, top, first, back, further, HasTreeWitness, TopsAgree, PassesTrees}
use Rattle.query_shape.specs.declared.layout.ShapeAtom.{ShapeAtom}
use Rattle.query_shape.specs.declared.layout.ShapeAtom.TheVariants as shape
use Rattle.tree_witness.proofs.Turned.{oriented_below}

-- the element with these roles behind it, the last one first
behind : Element → List Role → Element
behind e [] = e
behind e (r ∷ w) = Next (behind e w) r

behind_path : (e : Element) (w : List Role) → path_of (behind e w) ≡ path_of e ++ reverse w
unfolding behind
behind_path e [] = sym (append-nil (path_of e))
behind_path e (r ∷ w) = ap (◌++ r ∷ []) (behind_path e w) ∙ (append_assoc (path_of e) (reverse w) (r ∷ []) ∙ ap (path_of e ++◌) (sym (reverse-append (r ∷ []) w)))

behind_once : (e : Element) (v w : List Role) → behind e v ≡ behind e w → v ≡ w
behind_once e v w is =
    let same : reverse v ≡ reverse w = append_cancel_left (path_of e) (reverse v) (reverse w) (sym (behind_path e v) ∙ (ap path_of is ∙ behind_path e w)) in
    sym (reverse-reverse v) ∙ (ap reverse same ∙ reverse-reverse w)

module _ (o : Terminology) (rows : List NamedRow) where
  -- from where a role leads to a short element behind, it leads to nothing else
  step_first : (r : Role) (e f : Element) → IsShort o rows (Next e r) → Edge o rows r e f → f ≡ Next e r
  step_first r e f short (inl row) = absurd ((subst (λ (x : Element). IsShort o rows (Next x r)) row.from_is short).1.no_row row.to row.row)
  step_first r e f short (inr (inl found)) = found
  step_first r e f short (inr (inr up)) = absurd ((subst (λ (x : Element). IsShort o rows (Next x r)) up short).1.not_back (sym (inverse_twice r)))

  -- from an element with a last role another leads one further
  step_on : (q p : Role) (e f : Element) → Edge o rows p (Next e q) f → p ≢ inverse q → f ≡ Next (Next e q) p
  step_on q p e f (inl row) other = absurd (let named : Next e q ≡ Named row.from = row.from_is in cc)
  step_on q p e f (inr (inl found)) other = found
  step_on q p e f (inr (inr up)) other = absurd (other (sym (inverse_twice p) ∙ ap inverse (let last : inverse p ≡ q = cc in last)))

  -- and its inverse leads back
  step_back : (q : Role) (e f : Element) → IsShort o rows f → Edge o rows (inverse q) (Next e q) f → f ≡ e
  step_back q e f short (inl row) = absurd (let named : Next e q ≡ Named row.from = row.from_is in cc)
  step_back q e f short (inr (inl found)) = absurd ((subst (IsShort o rows) found short).1.not_back refl)
  step_back q e f short (inr (inr up)) = cc

module _ (o : Terminology) (rows : List NamedRow) (names : List (List ℕ)) (generation : Role → ℕ) (images : List Elem) (atoms : List ShapeAtom) (place : ℕ → Element)
    (below : (a : ShapeAtom) → Contains atoms a → IsBelow (length images) a)
    (short : (k : ℕ) → k < length images → IsShort o rows (place k))
    (folds : (k : ℕ) (e : Elem) → slice_get images k ≡ Some e → Represents names generation e (node_of (place k)))
    (holds : (a : ShapeAtom) → Contains atoms a → HoldsOn o rows place a) where
  edge : (r : Role) (s u : ℕ) → IsOriented atoms r s u → Edge o rows r (place s) (place u)
  edge r s u (inl there) = holds (shape.Role r s u) there
  edge r s u (inr (q, is, there)) = subst (λ (p : Role). Edge o rows p (place s) (place u)) (sym is) (edge_back o rows q (place u) (place s) (holds (shape.Role q u s) there))

  module _ (r : Role) (t child : ℕ) (atom : IsOriented atoms r t child) (on : IsOn images r child) where
    -- the atom leads further down from the top
    extended : IsShort o rows (Next (place t) r)
    extended = by (place child) refl (edge r t child atom)
      where
        within : (t < length images) × (child < length images)
        within = oriented_below images atoms below r t child atom

        -- the child is placed behind something, by the role
        ends : (x : Element) → place child ≡ x → (e : Element) × (x ≡ Next e r)
        ends (Named a) is = absurd (subst (λ (x : Element). Represents names generation (elem.Shared on.0) (node_of x)) is (folds child (elem.Shared on.0) on.1))
        ends (Next e q) is =
            let last = subst (λ (x : Element). Represents names generation (elem.Shared on.0) (node_of x)) is (folds child (elem.Shared on.0) on.1) in
            (e, ap (Next e) (sym last.0 ∙ on.2))

        by : (x : Element) → place child ≡ x → Edge o rows r (place t) x → IsShort o rows (Next (place t) r)
        by x is (inl row) = let end = ends x is in absurd (let named : Next end.0 r ≡ Named row.to = sym end.1 ∙ row.to_is in cc)
        by x is (inr (inl found)) = subst (IsShort o rows) (is ∙ found) (short child within.1)
        by x is (inr (inr up)) = let end = ends x is in absurd ((subst (IsShort o rows) (up ∙ ap (λ y. Next y (inverse r)) end.1) (short t within.0)).1.not_back refl)

    -- each term of the tree witness is placed on the roles of its list, behind the top
    placed : {s : ℕ} {w : List Role} → TreeWitness atoms r t s w → place s ≡ behind (place t) w
    unfolding behind
    placed (top is) = ap place is
    placed (first {s} {u} h has) = step_first o rows r (place t) (place u) extended (subst (λ (x : Element). Edge o rows r x (place u)) (placed h) (edge r s u has))
    placed (back {s} {u} {q} {w} h has) =
        step_back o rows q (behind (place t) w) (place u) (short u (oriented_below images atoms below (inverse q) s u has).1)
        (subst (λ (x : Element). Edge o rows (inverse q) x (place u)) (placed h) (edge (inverse q) s u has))
    placed (further {s} {u} {p} {q} {w} h has other) =
        step_on o rows q p (behind (place t) w) (place u) (subst (λ (x : Element). Edge o rows p x (place u)) (placed h) (edge p s u has)) other

    one_list : HasTreeWitness atoms r t
    one_list s v w one other = behind_once (place t) v w (sym (placed one) ∙ placed other)

    -- a term of the tree witness has an image
    within : {s : ℕ} {w : List Role} → TreeWitness atoms r t s w → s < length images
    within (top is) = subst (λ (k : ℕ). k < length images) (sym is) (oriented_below images atoms below r t child atom).0
    within (first {s} {u} h has) = (oriented_below images atoms below r s u has).1
    within (back {s} {u} {q} h has) = (oriented_below images atoms below (inverse q) s u has).1
    within (further {s} {u} {p} h has other) = (oriented_below images atoms below p s u has).1

    one_image : AllPairs (λ x y. x ≢ y) names → TopsAgree atoms images r t
    unfolding behind
    one_image distinct s h =
        let image : ℕ → Elem = λ k. get_or images k (elem.Named 0) in
        let at_s : slice_get images s ≡ Some (image s) = slice_get-get_or images s (elem.Named 0) (within h) in
        let at_t : slice_get images t ≡ Some (image t) = slice_get-get_or images t (elem.Named 0) (oriented_below images atoms below r t child atom).0 in
        let same : image s ≡ image t =
        elem_once names generation distinct (image s) (image t) (node_of (place t)) (subst (λ (x : Element). Represents names generation (image s) (node_of x)) (placed h) (folds s (image s) at_s))
        (folds t (image t) at_t) in
        at_s ∙ (ap Some same ∙ sym at_t)

  pub placed_passes : AllPairs (λ x y. x ≢ y) names → PassesTrees atoms images
  placed_passes distinct r t child atom on = (one_list r t child atom on, one_image r t child atom on distinct)
