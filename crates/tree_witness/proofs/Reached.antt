-- Where a match passes, joined terms have one image, and no endless chain leads upward.
use Rattle.std.proofs.Common.{◌≡◌, ◌≢◌, ℕ, zero, suc, ◌+◌, ◌<◌, ◌≤◌, ◌⊎◌, inl, inr, List, [], ◌∷◌, ◌++◌, length, slice_get, AllPairs, Contains, refl, sym, ◌∙◌, subst, arith}
use Rattle.std.proofs.lemmas.Option.{same_Some}
use Rattle.dl_base.specs.Ontology.{Terminology}
use Rattle.dl_base.specs.Derivation.{inverse}
use Rattle.dl_base.specs.Tables.{TableRow}
use Rattle.dl_base.specs.Completion.{AreCompleted}
use Rattle.dl_base.specs.declared.concept.Role.{Role}
use Rattle.dl_base.specs.declared.element.Elem.{Elem}
use Rattle.dl_base.specs.declared.row.NamedRow.{NamedRow}
use Rattle.dl_base.proofs.RisingLemmas.{contains_cases}
use Rattle.query_shape.specs.Shape.{HoldsAt}
use Rattle.query_shape.specs.TreeWitness.{IsOn, IsOriented, TreeWitness, top, first, back, further, PassesTrees}
use Rattle.query_shape.specs.declared.layout.ShapeAtom.{ShapeAtom}
use Rattle.query_shape.specs.declared.layout.ShapeAtom.TheVariants as shape
use Rattle.match_filter.specs.Links.{IsLinkOf, IsLink}
use Rattle.match_filter.specs.Joining.{Joined, itself, turned, through, parents, IsGrounded, ground, Agree}
use Rattle.tree_witness.proofs.Turned.{on_once, turned_round, hangs_behind}
use Rattle.tree_witness.proofs.Counting.{distinct_more, few_distinct}
use Rattle.tree_witness.proofs.Nested.{hangs_on, not_back_down}

-- ---- links as oriented atoms

-- the atom by this role leads from the first term to the second, which is on the role's witness
record LeadsDown (images : List Elem) (atoms : List ShapeAtom) (p c : ℕ) : Type 0 where
  role : Role
  atom : IsOriented atoms role p c
  on : IsOn images role c

link_leads : (images : List Elem) (atoms : List ShapeAtom) (p c : ℕ) → IsLink images atoms p c → LeadsDown images atoms p c
link_leads images atoms p c (a, there, l) = by a there l
  where
    by : (a : ShapeAtom) → Contains atoms a → IsLinkOf images a p c → LeadsDown images atoms p c
    by (shape.Concept d n) there l = absurd l
    by (shape.Role r n m) there (inl (p_is, c_is, on)) = record {
      role = r;
      atom = inl (subst (λ (k : ℕ). Contains atoms (shape.Role r k c)) (sym p_is) (subst (λ (k : ℕ). Contains atoms (shape.Role r n k)) (sym c_is) there));
      on = subst (IsOn images r) (sym c_is) on;
    }
    by (shape.Role r n m) there (inr (p_is, c_is, off, on)) = record {
      role = inverse r;
      atom = inr (r, refl, subst (λ (k : ℕ). Contains atoms (shape.Role r c k)) (sym p_is) (subst (λ (k : ℕ). Contains atoms (shape.Role r k m)) (sym c_is) there));
      on = subst (IsOn images (inverse r)) (sym c_is) on;
    }

module _ (o : Terminology) (rows : List NamedRow) (names : List (List ℕ)) (generation : Role → ℕ) (table : List TableRow) (completed : AreCompleted o rows names generation table)
    (images : List Elem) (atoms : List ShapeAtom) (holds : (a : ShapeAtom) → Contains atoms a → HoldsAt table images a) (passes : PassesTrees atoms images) where
  abbrev Link : ℕ → ℕ → Type 0
  Link = IsLink images atoms

  leads : (p c : ℕ) → Link p c → LeadsDown images atoms p c
  leads p c l = link_leads images atoms p c l

  module _ (r : Role) (t child : ℕ) (atom : IsOriented atoms r t child) (on : IsOn images r child) where
    on_last : (s : ℕ) (p : Role) (w : List Role) → TreeWitness atoms r t s (p ∷ w) → IsOn images p s
    on_last = hangs_on o rows names generation table completed images atoms holds passes r t child atom on

    -- a link leads one role further down
    down_link : (p c : ℕ) (q : Role) (w : List Role) → (l : LeadsDown images atoms p c) → TreeWitness atoms r t p (q ∷ w) → TreeWitness atoms r t c (l.role ∷ q ∷ w)
    down_link p c q w l h = further h l.atom (not_back_down o rows names generation table completed images atoms holds q l.role p c l.atom l.on (on_last p q w h))

    -- and from a term that is reached up to its parent
    up_link : (p c : ℕ) (q : Role) (w : List Role) → (l : LeadsDown images atoms p c) → TreeWitness atoms r t c (q ∷ w) → TreeWitness atoms r t p w
    up_link p c q w l h =
        let same : l.role ≡ q = on_once images l.role q c l.on (on_last c q w h) in
        back h (subst (λ (x : Role). IsOriented atoms (inverse x) c p) same (turned_round atoms l.role p c l.atom))

    -- joined terms have the same lists, where these aren't empty
    across : {j k : ℕ} → Joined Link j k → ((q : Role) (w : List Role) → TreeWitness atoms r t j (q ∷ w) → TreeWitness atoms r t k (q ∷ w))
        × ((q : Role) (w : List Role) → TreeWitness atoms r t k (q ∷ w) → TreeWitness atoms r t j (q ∷ w))
    across itself = (λ q w h. h, λ q w h. h)
    across (turned x) = ((across x).1, (across x).0)
    across (through x y) = (λ q w h. (across y).0 q w ((across x).0 q w h), λ q w h. (across x).1 q w ((across y).1 q w h))
    across (parents {p} {c} {q = m} {d} l k x) = (
      λ q w h. up_link m d (leads p c l).role (q ∷ w) (leads m d k) ((across x).0 (leads p c l).role (q ∷ w) (down_link p c q w (leads p c l) h)),
      λ q w h. up_link p c (leads m d k).role (q ∷ w) (leads p c l) ((across x).1 (leads m d k).role (q ∷ w) (down_link m d q w (leads m d k) h)),
    )

  -- a term that is joined to a child hangs below the parent
  hangs_below : (p c k : ℕ) → (l : LeadsDown images atoms p c) → Joined Link c k → TreeWitness atoms l.role p k (l.role ∷ [])
  hangs_below p c k l joined = (across l.role p c l.atom l.on joined).0 l.role [] (first (top refl) l.atom)

  -- ---- one image

  one_image : {j k : ℕ} → Joined Link j k → slice_get images j ≡ slice_get images k
  one_image itself = refl
  one_image (turned x) = sym (one_image x)
  one_image (through x y) = one_image x ∙ one_image y
  one_image (parents {p} {c} {q = m} {d} l k x) =
      let down : LeadsDown images atoms p c = leads p c l in
      let other : LeadsDown images atoms m d = leads m d k in
      let hangs : TreeWitness atoms down.role p m [] = up_link down.role p c down.atom down.on m d down.role [] other (hangs_below p c d down x) in
      sym ((passes down.role p c down.atom down.on).1 m hangs)

  pub passed_agree : Agree Link images
  passed_agree j k e f at_j at_k joined = same_Some e f (sym at_j ∙ (one_image joined ∙ at_k))

  -- ---- no endless chain

  -- the second term hangs below the first, strictly
  record HangsUnder (k j : ℕ) : Type 0 where
    child : ℕ
    down : LeadsDown images atoms k child
    last : Role
    rest : List Role
    hangs : TreeWitness atoms down.role k j (last ∷ rest)

  -- so it is another
  other_term : (k j : ℕ) → HangsUnder k j → j ≢ k
  other_term k j h same =
      let none : [] ≡ h.last ∷ h.rest = (passes h.down.role k h.child h.down.atom h.down.on).0 k [] (h.last ∷ h.rest) (top refl) (subst (λ (i : ℕ). TreeWitness atoms h.down.role k i (h.last ∷ h.rest)) same h.hangs) in
      cc

  -- what hangs below a term hangs below its parents
  under_parent : (p c k j : ℕ) → Link p c → Joined Link c k → HangsUnder k j → HangsUnder p j
  under_parent p c k j link joined h =
      let down : LeadsDown images atoms p c = leads p c link in
      let here : TreeWitness atoms down.role p k (down.role ∷ []) = hangs_below p c k down joined in
      let on_k : IsOn images down.role k = on_last down.role p c down.atom down.on k down.role [] here in
      let other : h.down.role ≢ inverse down.role = not_back_down o rows names generation table completed images atoms holds down.role h.down.role k h.child h.down.atom h.down.on on_k in
      record { child = c; down = down; last = h.last; rest = h.rest ++ down.role ∷ []; hangs = hangs_behind atoms down.role p down.role [] h.down.role k here other h.hangs }

  under_itself : (p c k : ℕ) → Link p c → Joined Link c k → HangsUnder p k
  under_itself p c k link joined = let down : LeadsDown images atoms p c = leads p c link in record { child = c; down = down; last = down.role; rest = []; hangs = hangs_below p c k down joined }

  module _ (count : ℕ) (within : (p c : ℕ) → Link p c → (p < count) × (c < count)) where
    -- the term stands above these
    record IsAbove (k : ℕ) (ks : List ℕ) : Type 0 where
      below : k < count
      each : (j : ℕ) → Contains ks j → (j < count) × HangsUnder k j
      distinct : AllPairs (λ i j. i ≢ j) ks

    with_it : (k : ℕ) (ks : List ℕ) → IsAbove k ks → length ks < count
    with_it k ks above = few_distinct count (k ∷ ks) (distinct_more k ks (λ j c. other_term k j (above.each j c).1) above.distinct) (λ j c. by j (contains_cases k ks j c))
      where
        by : (j : ℕ) → (j ≡ k) ⊎ Contains ks j → j < count
        by j (inl is) = subst (λ (i : ℕ). i < count) (sym is) above.below
        by j (inr c) = (above.each j c).0

    above_parent : (p c k : ℕ) (ks : List ℕ) → Link p c → Joined Link c k → IsAbove k ks → IsAbove p (k ∷ ks)
    above_parent p c k ks link joined above = record {
      below = (within p c link).0;
      each = λ j there. by j (contains_cases k ks j there);
      distinct = distinct_more k ks (λ j there. other_term k j (above.each j there).1) above.distinct;
    }
      where
        by : (j : ℕ) → (j ≡ k) ⊎ Contains ks j → (j < count) × HangsUnder p j
        by j (inl is) = subst (λ (i : ℕ). (i < count) × HangsUnder p i) (sym is) (above.below, under_itself p c k link joined)
        by j (inr there) = ((above.each j there).0, under_parent p c k j link joined (above.each j there).1)

    grounded_with : (n k : ℕ) (ks : List ℕ) → count ≤ n + length ks → IsAbove k ks → IsGrounded Link k
    grounded_with zero k ks most above = let less : length ks < count = with_it k ks above in absurd (omega arith)
    grounded_with (suc n) k ks most above = ground (λ p c link joined. grounded_with n p (k ∷ ks) (omega arith) (above_parent p c k ks link joined above))

    pub passed_grounded : (k : ℕ) → k < count → IsGrounded Link k
    passed_grounded k lt =
        grounded_with count k [] (omega arith) (record { below = lt; each = λ j c. absurd (omega (arith, c.1)); distinct = λ i j d less below. absurd (omega arith) })
