-- Trees that grow until they are tree witnesses.
use Rattle.std.proofs.Common.{◌≡◌, ◌≢◌, ℕ, zero, suc, ◌<◌, ◌≤◌, ◌⊎◌, inl, inr, List, [], ◌∷◌, ◌++◌, length, map, get_or, Some, None, slice_get, All, AllPairs, Contains, refl, sym, ◌∙◌, ap, subst, arith}
use Rattle.std.proofs.lemmas.List.{length-map, map-append}
use Rattle.std.proofs.lemmas.List.Elements.{All-contains, All-push, Contains-append_left, Contains-get_or}
use Rattle.std.proofs.lemmas.List.Quantifiers.{all_pairs_push}
use Rattle.std.proofs.lemmas.Option.{same_Some}
use Rattle.dl_base.specs.Derivation.{inverse}
use Rattle.dl_base.specs.declared.concept.Role.{Role}
use Rattle.dl_base.proofs.RoleLemmas.{one_role_or_two}
use Rattle.dl_base.proofs.RowLemmas.{contains_cut}
use Rattle.query_shape.specs.TreeWitness.{IsOriented, TreeWitness, top, first, back, further, HasTreeWitness}
use Rattle.query_shape.specs.declared.layout.ShapeAtom.{ShapeAtom}
use Rattle.dl_base.proofs.PlaceLemmas.{map_from, place_of, one_place, member_at}
use Rattle.tree_witness.specs.Trees.{oriented_atoms, IsOrientedBelow, IsStep, CanStep, HasTerm, ExtendsTree, IsThere, IsOpen, IsGrown, IsNext, IsTreeOf}
use Rattle.tree_witness.specs.declared.oriented.OrientedAtom.{OrientedAtom}
use Rattle.tree_witness.specs.declared.tree.ReachedTerm.{ReachedTerm}
use Rattle.tree_witness.proofs.OrientedAtomLemmas.{oriented_from, oriented_there}
use Rattle.tree_witness.proofs.Counting.{few_distinct}

-- ---- steps

-- a step of a tree witness
step_hangs : (atoms : List ShapeAtom) (r : Role) (t s u : ℕ) (v : List Role) (p : Role) (w : List Role) → TreeWitness atoms r t s v → IsOriented atoms p s u → IsStep r v p w → TreeWitness atoms r t u w
step_hangs atoms r t s u [] p w h atom (is, list) =
    subst (λ (x : List Role). TreeWitness atoms r t u x) (sym list) (subst (λ (q : Role). TreeWitness atoms r t u (q ∷ [])) (sym is) (first h (subst (λ (q : Role). IsOriented atoms q s u) is atom)))
step_hangs atoms r t s u (q ∷ v) p w h atom (inl (is, list)) =
    subst (λ (x : List Role). TreeWitness atoms r t u x) (sym list) (back h (subst (λ (x : Role). IsOriented atoms x s u) is atom))
step_hangs atoms r t s u (q ∷ v) p w h atom (inr (other, list)) = subst (λ (x : List Role). TreeWitness atoms r t u x) (sym list) (further h atom other)

-- there is one where an atom leads on
some_step : (r : Role) (v : List Role) (p : Role) → CanStep r v p → (w : List Role) × IsStep r v p w
some_step r [] p (inl some) = absurd (some refl)
some_step r [] p (inr is) = (p ∷ [], (is, refl))
some_step r (q ∷ v) p can = by (one_role_or_two p (inverse q))
  where
    by : (p ≡ inverse q) ⊎ (p ≢ inverse q) → (w : List Role) × IsStep r (q ∷ v) p w
    by (inl is) = (v, inl (is, refl))
    by (inr other) = (p ∷ q ∷ v, inr (other, refl))

-- a step leads to one list
one_step : (r : Role) (v : List Role) (p : Role) (w x : List Role) → IsStep r v p w → IsStep r v p x → w ≡ x
one_step r [] p w x a b = a.1 ∙ sym b.1
one_step r (q ∷ v) p w x (inl a) (inl b) = a.1 ∙ sym b.1
one_step r (q ∷ v) p w x (inl a) (inr b) = absurd (b.0 a.0)
one_step r (q ∷ v) p w x (inr a) (inl b) = absurd (a.0 b.0)
one_step r (q ∷ v) p w x (inr a) (inr b) = a.1 ∙ sym b.1

-- ---- trees

abbrev term_of : ReachedTerm → ℕ
term_of h = h.term

-- the tree has the top, each term once, terms below the number, and what hangs there alone
pub record IsGrowing (terms : ℕ) (oriented : List OrientedAtom) (root : OrientedAtom) (tree : List ReachedTerm) : Type 0 where
  pub top : Contains tree (record { term = root.from; roles = [] })
  pub distinct : AllPairs (λ i j. i ≢ j) (map term_of tree)
  pub below : All (λ h. h.term < terms) tree
  pub hang : (atoms : List ShapeAtom) → oriented ≡ oriented_atoms atoms → (h : ReachedTerm) → Contains tree h → TreeWitness atoms root.role root.from h.term h.roles

term_at : (tree : List ReachedTerm) (k : ℕ) (h : ReachedTerm) → slice_get tree k ≡ Some h → slice_get (map term_of tree) k ≡ Some h.term
term_at (g ∷ tree) zero h at = ap Some (ap term_of (same_Some g h at))
term_at (g ∷ tree) (suc k) h at = term_at tree k h at
term_at [] k h at = absurd cc

term_there : (tree : List ReachedTerm) (n : ℕ) → Contains (map term_of tree) n → HasTerm tree n
term_there tree n c = let found = map_from term_of tree n c in (found.0, found.1, sym found.2)

-- a term has one list in it
once : (tree : List ReachedTerm) → AllPairs (λ i j. i ≢ j) (map term_of tree) → (g h : ReachedTerm) → Contains tree g → Contains tree h → g.term ≡ h.term → g ≡ h
once tree distinct g h at_g at_h same =
    let place_g = place_of tree g at_g in
    let place_h = place_of tree h at_h in
    let one : at_g.0 ≡ at_h.0 = one_place (map term_of tree) at_g.0 at_h.0 g.term distinct (term_at tree at_g.0 g place_g) (term_at tree at_h.0 h place_h ∙ ap Some (sym same)) in
    same_Some g h (sym place_g ∙ (ap (slice_get tree) one ∙ place_h))

-- the tree is no longer than there are terms
pub few_terms : (terms : ℕ) (oriented : List OrientedAtom) (root : OrientedAtom) (tree : List ReachedTerm) → IsGrowing terms oriented root tree → length tree ≤ terms
few_terms terms oriented root tree growing =
    let most : length (map term_of tree) ≤ terms = few_distinct terms (map term_of tree) growing.distinct (λ k c. below k (term_there tree k c)) in
    let count = length-map tree term_of in
    omega arith
  where
    below : (k : ℕ) → HasTerm tree k → k < terms
    below k (h, there, is) = subst (λ (n : ℕ). n < terms) is (All-contains (λ h. h.term < terms) tree h growing.below there)

-- at first it has the top alone
pub top_growing : (terms : ℕ) (oriented : List OrientedAtom) (root : OrientedAtom) → root.from < terms → IsGrowing terms oriented root (record { term = root.from; roles = [] } ∷ [])
top_growing terms oriented root lt = record {
  top = (0, omega arith, refl);
  distinct = λ i j d less below. absurd (omega arith);
  below = λ k d less. only k d less;
  hang = λ atoms is h there. hang atoms is h there;
}
  where
    only : (k : ℕ) (d : ReachedTerm) → k < 1 → (get_or (record { term = root.from; roles = [] } ∷ []) k d).term < terms
    only zero d less = lt
    only (suc k) d less = absurd (omega arith)

    hang : (atoms : List ShapeAtom) → oriented ≡ oriented_atoms atoms → (h : ReachedTerm) → Contains (record { term = root.from; roles = [] } ∷ []) h → TreeWitness atoms root.role root.from h.term h.roles
    hang atoms is h (zero, less, same) = subst (λ (g : ReachedTerm). TreeWitness atoms root.role root.from g.term g.roles) same (top refl)
    hang atoms is h (suc k, less, same) = absurd (omega arith)

module _ (terms : ℕ) (oriented : List OrientedAtom) (root : OrientedAtom) (tree : List ReachedTerm) (growing : IsGrowing terms oriented root tree) where
  -- what the next atom leads to hangs there
  next_hangs : (place : ℕ) (a : OrientedAtom) (above : ReachedTerm) → slice_get tree place ≡ Some above → Contains oriented a → IsOpen root.role tree above a → (w : List Role) → IsStep root.role above.roles a.role w
      → (atoms : List ShapeAtom) → oriented ≡ oriented_atoms atoms → TreeWitness atoms root.role root.from a.to w
  next_hangs place a above at there leads w step atoms is =
      step_hangs atoms root.role root.from a.from a.to above.roles a.role w
      (subst (λ (s : ℕ). TreeWitness atoms root.role root.from s above.roles) (sym leads.0) (growing.hang atoms is above (member_at tree place above at)))
      (oriented_from atoms a (subst (λ (as' : List OrientedAtom). Contains as' a) is there)) step

  -- one term more
  pub growing_more : (place : ℕ) (a : OrientedAtom) (added : ReachedTerm) → All (IsOrientedBelow terms) oriented → IsNext oriented root.role tree place a → (HasTerm tree a.to → ⊥) → ExtendsTree root.role tree place a added
      → IsGrowing terms oriented root (tree ++ added ∷ [])
  growing_more place a added below (above, at, (there, leads)) new (other, at_other, to_is, step) = record {
    top = Contains-append_left tree (added ∷ []) (record { term = root.from; roles = [] }) growing.top;
    distinct =
        subst (AllPairs (λ i j. i ≢ j)) (sym (map-append term_of tree (added ∷ [])))
        (all_pairs_push (λ i j. i ≢ j) (map term_of tree) added.term growing.distinct
        (λ k d lt same. new (term_there tree a.to (subst (Contains (map term_of tree)) (same ∙ to_is) (Contains-get_or (map term_of tree) k d lt)))));
    below = All-push (λ h. h.term < terms) tree added growing.below (subst (λ (n : ℕ). n < terms) (sym to_is) (All-contains (IsOrientedBelow terms) oriented a below there).1);
    hang = λ atoms is h c. hang atoms is h (contains_cut tree added h c);
  }
    where
      stepped : IsStep root.role above.roles a.role added.roles
      stepped = subst (λ (g : ReachedTerm). IsStep root.role g.roles a.role added.roles) (same_Some other above (sym at_other ∙ at)) step

      here : (atoms : List ShapeAtom) → oriented ≡ oriented_atoms atoms → TreeWitness atoms root.role root.from added.term added.roles
      here atoms is = subst (λ (n : ℕ). TreeWitness atoms root.role root.from n added.roles) (sym to_is) (next_hangs place a above at there leads added.roles stepped atoms is)

      hang : (atoms : List ShapeAtom) → oriented ≡ oriented_atoms atoms → (h : ReachedTerm) → (h ≡ added) ⊎ Contains tree h → TreeWitness atoms root.role root.from h.term h.roles
      hang atoms is h (inl same) = subst (λ (g : ReachedTerm). TreeWitness atoms root.role root.from g.term g.roles) (sym same) (here atoms is)
      hang atoms is h (inr c) = growing.hang atoms is h c

  -- where the term is there with another list, there is no tree witness
  pub none_grown : (place : ℕ) (a : OrientedAtom) → IsNext oriented root.role tree place a → HasTerm tree a.to → IsTreeOf oriented root None
  none_grown place a (above, at, (there, leads)) (h, there_h, is_to) atoms is has =
      let some : (w : List Role) × IsStep root.role above.roles a.role w = some_step root.role above.roles a.role leads.1 in
      let hangs : TreeWitness atoms root.role root.from a.to some.0 = next_hangs place a above at there leads some.0 some.1 atoms is in
      let other : TreeWitness atoms root.role root.from a.to h.roles = subst (λ (s : ℕ). TreeWitness atoms root.role root.from s h.roles) is_to (growing.hang atoms is h there_h) in
      let same : some.0 ≡ h.roles = has a.to some.0 h.roles hangs other in
      leads.2 (h, there_h, is_to, subst (IsStep root.role above.roles a.role) same some.1)

  module _ (grown : IsGrown oriented root.role tree) (atoms : List ShapeAtom) (is : oriented ≡ oriented_atoms atoms) where
    -- a grown tree has what steps lead to
    step_there : (g : ReachedTerm) (u : ℕ) (p : Role) (w : List Role) → Contains tree g → IsOriented atoms p g.term u → CanStep root.role g.roles p → IsStep root.role g.roles p w
        → Contains tree (record { term = u; roles = w })
    step_there g u p w at atom can step =
        let there : Contains oriented (record { role = p; from = g.term; to = u }) =
        subst (λ (as' : List OrientedAtom). Contains as' (record { role = p; from = g.term; to = u })) (sym is) (oriented_there atoms p g.term u atom) in
        let found : IsThere root.role tree g.roles (record { role = p; from = g.term; to = u }) = grown g (record { role = p; from = g.term; to = u }) at there refl can in
        let list : found.0.roles ≡ w = one_step root.role g.roles p found.0.roles w found.3 step in
        subst (Contains tree) (λ i. record { term = found.2 i; roles = list i }) found.1

    reached : {s : ℕ} {w : List Role} → TreeWitness atoms root.role root.from s w → Contains tree (record { term = s; roles = w })
    reached (top same) = subst (λ (s : ℕ). Contains tree (record { term = s; roles = [] })) (sym same) growing.top
    reached (first {s} {u} h atom) = step_there (record { term = s; roles = [] }) u root.role (root.role ∷ []) (reached h) atom (inr refl) (refl, refl)
    reached (back {s} {u} {q} {w} h atom) = step_there (record { term = s; roles = q ∷ w }) u (inverse q) w (reached h) atom (inl (λ e. cc)) (inl (refl, refl))
    reached (further {s} {u} {p} {q} {w} h atom other) =
        step_there (record { term = s; roles = q ∷ w }) u p (p ∷ q ∷ w) (reached h) atom (inl (λ e. cc)) (inr (other, refl))

    one_list : HasTreeWitness atoms root.role root.from
    one_list s v w one other =
        ap (λ (h : ReachedTerm). h.roles) (once tree growing.distinct (record { term = s; roles = v }) (record { term = s; roles = w }) (reached one) (reached other) refl)

  -- a grown tree is the tree witness
  pub all_grown : IsGrown oriented root.role tree → IsTreeOf oriented root (Some tree)
  all_grown grown atoms is = (one_list grown atoms is, record { each = λ h. (growing.hang atoms is h, λ hangs. reached grown atoms is hangs); once = growing.distinct })
