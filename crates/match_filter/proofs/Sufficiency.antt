-- From a match whose joined terms agree and whose terms are grounded a placing on short elements is made.
use Rattle.std.proofs.Common.{◌≡◌, ℕ, ◌<◌, inl, inr, List, [], length, get_or, Some, slice_get, Contains, refl, sym, ◌∙◌, ap, subst}
use Rattle.std.proofs.lemmas.Option.{slice_get-get_or, get_or_from_slice_get, slice_get_within}
use Rattle.dl_base.specs.Ontology.{Terminology}
use Rattle.dl_base.specs.Derivation.{inverse}
use Rattle.dl_base.specs.Tables.{TableRow, ConceptRow}
use Rattle.dl_base.specs.Unfolding.{Element, Named, Next, DerivedAt, Edge}
use Rattle.dl_base.specs.Completion.{Node, Individual, NodePoints, DerivedAtNode, Represents, AreCompleted, CompletesConcept}
use Rattle.dl_base.specs.ShortUnfolding.{IsShort, node_of}
use Rattle.dl_base.specs.declared.concept.Role.{Role}
use Rattle.dl_base.specs.declared.concept.Basic.TheVariants as basic
use Rattle.dl_base.specs.declared.element.Elem.{Elem}
use Rattle.dl_base.specs.declared.element.Witness.{Witness}
use Rattle.dl_base.specs.declared.element.Elem.TheVariants as elem
use Rattle.dl_base.specs.declared.row.NamedRow.{NamedRow}
use Rattle.dl_base.proofs.ShortLemmas.{node_once, points_end, derived_back, node_short}
use Rattle.query_shape.specs.Shape.{Layout, HoldsAt, IsTermOf, IsBelow}
use Rattle.query_shape.specs.Lifting.{HoldsOn, LiftsShape}
use Rattle.query_shape.specs.declared.layout.ShapeAtom.{ShapeAtom}
use Rattle.query_shape.specs.declared.layout.ShapeAtom.TheVariants as shape
use Rattle.query_shape.proofs.MatchList.{Decided, decide_elem, decide_member}
use Rattle.dl_base.proofs.PlaceLemmas.{member_at, place_of}
use Rattle.match_filter.specs.Links.{IsLinkOf, IsLink}
use Rattle.query_shape.specs.TreeWitness.{IsOn}
use Rattle.match_filter.specs.Joining.{Joined, itself, IsGrounded, Agree}
use Rattle.match_filter.proofs.Leads.{IsRoleRow}
use Rattle.match_filter.proofs.Nodes.{StandsOn, PointsTo, term_stands, link_points, row_between}
use Rattle.match_filter.proofs.Choices.{decide_below, decide_on, decide_some, role_of, chosen, chosen_is}
use Rattle.match_filter.proofs.Standing.{HasParent, Stands, root, behind, standing, one_standing}

-- the terms of a link are among those of the images
link_within_of : (images : List Elem) (a : ShapeAtom) → IsBelow (length images) a → (p c : ℕ) → IsLinkOf images a p c → (p < length images) × (c < length images)
link_within_of images (shape.Concept d n) below p c l = absurd l
link_within_of images (shape.Role r n m) below p c (inl (p_is, c_is, on)) =
    (subst (λ (k : ℕ). k < length images) (sym p_is) below.0, subst (λ (k : ℕ). k < length images) (sym c_is) below.1)
link_within_of images (shape.Role r n m) below p c (inr (p_is, c_is, off, on)) =
    (subst (λ (k : ℕ). k < length images) (sym p_is) below.1, subst (λ (k : ℕ). k < length images) (sym c_is) below.0)

module _ (images : List Elem) (atoms : List ShapeAtom) (below : (a : ShapeAtom) → Contains atoms a → IsBelow (length images) a) where
  pub link_within : (p c : ℕ) → IsLink images atoms p c → (p < length images) × (c < length images)
  link_within p c (a, there, l) = link_within_of images a (below a there) p c l

  -- a link of this atom is to a term that is joined to k
  abbrev IsAboveBy : ℕ → ShapeAtom → Type 0
  IsAboveBy k a = (p : ℕ) × (c : ℕ) × IsLinkOf images a p c × Joined (IsLink images atoms) c k

  decide_atom : (k : ℕ) → ((j : ℕ) → j < length images → Decided (Joined (IsLink images atoms) j k)) → (a : ShapeAtom) → Contains atoms a → Decided (IsAboveBy k a)
  decide_atom k decide (shape.Concept d n) there = inr (λ h. h.2)
  decide_atom k decide (shape.Role r n m) there =
      by (decide_on images r m) (decide m (below (shape.Role r n m) there).1) (decide_on images (inverse r) n) (decide n (below (shape.Role r n m) there).0)
    where
      not_first : IsOn images r m → (Joined (IsLink images atoms) m k → ⊥) → IsAboveBy k (shape.Role r n m) → ⊥
      not_first on fails (p, c, inl (p_is, c_is, same), joined) = fails (subst (λ (j : ℕ). Joined (IsLink images atoms) j k) c_is joined)
      not_first on fails (p, c, inr (p_is, c_is, off, same), joined) = off on

      not_second : (IsOn images r m → ⊥) → (Joined (IsLink images atoms) n k → ⊥) → IsAboveBy k (shape.Role r n m) → ⊥
      not_second off fails (p, c, inl (p_is, c_is, on), joined) = off on
      not_second off fails (p, c, inr (p_is, c_is, same, on), joined) = fails (subst (λ (j : ℕ). Joined (IsLink images atoms) j k) c_is joined)

      neither : (IsOn images r m → ⊥) → (IsOn images (inverse r) n → ⊥) → IsAboveBy k (shape.Role r n m) → ⊥
      neither off up (p, c, inl (p_is, c_is, on), joined) = off on
      neither off up (p, c, inr (p_is, c_is, same, on), joined) = up on

      by : Decided (IsOn images r m) → Decided (Joined (IsLink images atoms) m k) → Decided (IsOn images (inverse r) n) → Decided (Joined (IsLink images atoms) n k) → Decided (IsAboveBy k (shape.Role r n m))
      by (inl on) (inl joined) up under = inl (n, m, inl (refl, refl, on), joined)
      by (inl on) (inr fails) up under = inr (not_first on fails)
      by (inr off) under (inl on) (inl joined) = inl (m, n, inr (refl, refl, off, on), joined)
      by (inr off) under (inl on) (inr fails) = inr (not_second off fails)
      by (inr off) under (inr up) joined = inr (neither off up)

  decide_parent : ((j k : ℕ) → j < length images → k < length images → Decided (Joined (IsLink images atoms) j k)) → (k : ℕ) → k < length images → Decided (HasParent (IsLink images atoms) k)
  decide_parent decide k lt = by (decide_some (IsAboveBy k) atoms (decide_atom k (λ j at. decide j k at lt)))
    where
      by : Decided ((a : ShapeAtom) × Contains atoms a × IsAboveBy k a) → Decided (HasParent (IsLink images atoms) k)
      by (inl (a, there, (p, c, link, joined))) = inl (p, c, (a, there, link), joined)
      by (inr none) = inr (λ h. none (h.2.0, h.2.1, (h.0, h.1, h.2.2, h.3)))

module _ (o : Terminology) (rows : List NamedRow) (names : List (List ℕ)) (generation : Role → ℕ) (table : List TableRow) (completed : AreCompleted o rows names generation table)
    (images : List Elem) (atoms : List ShapeAtom)
    (below : (a : ShapeAtom) → Contains atoms a → IsBelow (length images) a)
    (holds : (a : ShapeAtom) → Contains atoms a → HoldsAt table images a)
    (used : (k : ℕ) → k < length images → (a : ShapeAtom) × Contains atoms a × IsTermOf k a)
    (decide : (j k : ℕ) → j < length images → k < length images → Decided (Joined (IsLink images atoms) j k))
    (agree : Agree (IsLink images atoms) images)
    (grounded : (k : ℕ) → k < length images → IsGrounded (IsLink images atoms) k) where
  image : ℕ → Elem
  image k = get_or images k (elem.Named 0)

  image_at : (k : ℕ) → k < length images → slice_get images k ≡ Some (image k)
  unfolding image
  image_at k lt = slice_get-get_or images k (elem.Named 0) lt

  image_is : (k : ℕ) (e : Elem) → slice_get images k ≡ Some e → image k ≡ e
  unfolding image
  image_is k e at = get_or_from_slice_get images k e (elem.Named 0) at

  image_same : (j k : ℕ) → j < length images → k < length images → Joined (IsLink images atoms) j k → image j ≡ image k
  image_same j k at_j at_k joined = agree j k (image j) (image k) (image_at j at_j) (image_at k at_k) joined

  -- a short element that folds to the image
  abbrev FoldsTo : Elem → Element → Type 0
  FoldsTo e x = IsShort o rows x × Represents names generation e (node_of x)

  some_short : (e : Elem) → Contains images e → (x : Element) × FoldsTo e x
  some_short e c =
      let at : slice_get images c.0 ≡ Some e = place_of images e c in
      let term = used c.0 c.1 in
      let stands : StandsOn o rows names generation e = term_stands o rows names generation table completed images term.0 c.0 e term.2 (holds term.0 term.1) at in
      let found = node_short o rows stands.node stands.there in
      (found.0, (found.1, subst (Represents names generation e) (sym found.2) stands.is))

  root_of : Elem → Element
  root_of = chosen (Contains images) (decide_member decide_elem images) (Named []) FoldsTo some_short

  root_folds : (e : Elem) → Contains images e → FoldsTo e (root_of e)
  unfolding root_of
  root_folds e c = chosen_is (Contains images) (decide_member decide_elem images) (Named []) FoldsTo some_short e c

  abbrev On : ℕ → Element → Type 0
  On = Stands (IsLink images atoms) (λ k. role_of (image k)) (λ k. root_of (image k))

  points_to : (p c : ℕ) → IsLink images atoms p c → PointsTo o rows names generation images p c
  points_to p c (a, there, l) = link_points o rows names generation table completed images a (holds a there) p c l

  role_of_child : (p c : ℕ) (l : IsLink images atoms p c) → role_of (image c) ≡ (points_to p c l).witness.role
  role_of_child p c l = let to : PointsTo o rows names generation images p c = points_to p c l in ap role_of (image_is c (elem.Shared to.witness) to.at)

  as_shared : (e : Element) (w : Witness) → w.generation ≡ generation w.role → NodePoints o rows (node_of e) w.role → IsShort o rows e → FoldsTo (elem.Shared w) (Next e (role_of (elem.Shared w)))
  as_shared e w current points short = ((short, points_end o rows e w.role points), (refl, current))

  -- what a term is on is short and folds to its image
  fits : {k : ℕ} {e : Element} → On k e → k < length images → FoldsTo (image k) e
  fits {k} {e} (root alone is) lt = subst (FoldsTo (image k)) (sym is) (root_folds (image k) (member_at images k (image k) (image_at k lt)))
  fits {k} (behind {p} {c} {e} link joined above) lt = extended (points_to p c link) refl (fits above (link_within images atoms below p c link).0)
    where
      extended : (to : PointsTo o rows names generation images p c) → points_to p c link ≡ to → FoldsTo (image p) e → FoldsTo (image k) (Next e (role_of (image k)))
      extended to same (short, folds) =
          let within = link_within images atoms below p c link in
          let child : image k ≡ elem.Shared to.witness = sym (image_same c k within.1 lt joined) ∙ image_is c (elem.Shared to.witness) to.at in
          let parent : image p ≡ to.parent = image_is p to.parent to.parent_at in
          let node : to.node ≡ node_of e = node_once names generation to.parent to.node (node_of e) to.node_is (subst (λ (x : Elem). Represents names generation x (node_of e)) parent folds) in
          let points : NodePoints o rows (node_of e) to.witness.role = subst (λ (x : Node). NodePoints o rows x to.witness.role) node to.points in
          subst (λ (x : Elem). FoldsTo x (Next e (role_of x))) (sym child) (as_shared e to.witness to.current points short)

  some_standing : (k : ℕ) → k < length images → (e : Element) × On k e
  some_standing k lt =
      standing (IsLink images atoms) (λ k. role_of (image k)) (λ k. root_of (image k)) (length images) (link_within images atoms below)
      (decide_parent images atoms below decide) k lt (grounded k lt)

  place : ℕ → Element
  place = chosen (λ k. k < length images) (λ k. decide_below k (length images)) (Named []) On some_standing

  place_on : (k : ℕ) → k < length images → On k (place k)
  unfolding place
  place_on k lt = chosen_is (λ k. k < length images) (λ k. decide_below k (length images)) (Named []) On some_standing k lt

  one_place : (j k : ℕ) (e f : Element) → On j e → On k f → j < length images → k < length images → Joined (IsLink images atoms) j k → e ≡ f
  one_place j k e f on_j on_k at_j at_k joined =
      one_standing (IsLink images atoms) (λ k. role_of (image k)) (λ k. root_of (image k)) (length images) (link_within images atoms below)
      (λ j k at_j at_k joined. ap role_of (image_same j k at_j at_k joined)) (λ j k at_j at_k joined. ap root_of (image_same j k at_j at_k joined))
      on_j on_k at_j at_k joined

  -- a child is placed behind its parent
  placed_behind : (p c : ℕ) (r : Role) → IsLink images atoms p c → role_of (image c) ≡ r → place c ≡ Next (place p) r
  placed_behind p c r link role =
      let within = link_within images atoms below p c link in
      let next : On c (Next (place p) (role_of (image c))) = behind link itself (place_on p within.0) in
      one_place c c (place c) (Next (place p) (role_of (image c))) (place_on c within.1) next within.1 within.1 itself ∙ ap (Next (place p)) role

  role_on : (r : Role) (k : ℕ) → IsOn images r k → role_of (image k) ≡ r
  role_on r k (w, at, is) = ap role_of (image_is k (elem.Shared w) at) ∙ is

  folds_at : (k : ℕ) → k < length images → FoldsTo (image k) (place k)
  folds_at k lt = fits (place_on k lt) lt

  node_at : (k : ℕ) (e : Elem) (x : Node) → slice_get images k ≡ Some e → Represents names generation e x → node_of (place k) ≡ x
  node_at k e x at is =
      let lt : k < length images = slice_get_within images k e at in
      node_once names generation e (node_of (place k)) x (subst (λ (f : Elem). Represents names generation f (node_of (place k))) (image_is k e at) (folds_at k lt).1) is

  named_at : (e : Element) (a : List ℕ) → node_of e ≡ Individual a → e ≡ Named a
  named_at (Named b) a is = ap Named (let same : b ≡ a = cc in same)
  named_at (Next e r) a is = absurd cc

  placed_holds : (a : ShapeAtom) → Contains atoms a → HoldsOn o rows place a
  placed_holds (shape.Concept c n) there = by (holds (shape.Concept c n) there)
    where
      by : HoldsAt table images (shape.Concept c n) → DerivedAt o rows (place n) (basic.Concept c)
      by (e, at, row) =
          let completes : CompletesConcept o rows names generation c e = (completed.each (ConceptRow c e)).0 row in
          let node : node_of (place n) ≡ completes.node = node_at n e completes.node at completes.is in
          derived_back o rows (place n) (basic.Concept c) (subst (λ (x : Node). DerivedAtNode o rows x (basic.Concept c)) (sym node) completes.derived)
  placed_holds (shape.Role r n m) there = by (decide_on images r m) (decide_on images (inverse r) n)
    where
      row_edge : (h : HoldsAt table images (shape.Role r n m)) → (x : Node) × (y : Node) × Represents names generation h.0 x × Represents names generation h.1 y × IsRoleRow o rows r x y → Edge o rows r (place n) (place m)
      row_edge h (x, y, is_x, is_y, row) =
          let from : place n ≡ Named row.from = named_at (place n) row.from (node_at n h.0 x h.2 is_x ∙ row.from_is) in
          let to : place m ≡ Named row.to = named_at (place m) row.to (node_at m h.1 y h.3 is_y ∙ row.to_is) in
          inl (record { from = row.from; to = row.to; from_is = from; to_is = to; row = row.row })

      by : Decided (IsOn images r m) → Decided (IsOn images (inverse r) n) → Edge o rows r (place n) (place m)
      by (inl on) up = inr (inl (placed_behind n m r (shape.Role r n m, there, inl (refl, refl, on)) (role_on r m on)))
      by (inr off) (inl on) = inr (inr (placed_behind m n (inverse r) (shape.Role r n m, there, inr (refl, refl, off, on)) (role_on (inverse r) n on)))
      by (inr off) (inr up) =
          row_edge (holds (shape.Role r n m) there) (row_between o rows names generation table completed images r n m (holds (shape.Role r n m) there) off up)

  pub makes_placing : (s : Layout) → s.atoms ≡ atoms → length images ≡ length s.terms → LiftsShape o rows names generation s images
  makes_placing s same count = record {
    count = count;
    place = place;
    short = λ k lt. (folds_at k (subst (λ (n : ℕ). k < n) (sym count) lt)).0;
    folds = λ k e at. subst (λ (f : Elem). Represents names generation f (node_of (place k))) (image_is k e at) (folds_at k (slice_get_within images k e at)).1;
    atoms = λ a there. placed_holds a (subst (λ (as' : List ShapeAtom). Contains as' a) same there);
  }
