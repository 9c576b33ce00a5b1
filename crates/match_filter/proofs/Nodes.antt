-- The nodes on which the terms of a match are, and what links say of them.
use Rattle.std.proofs.Common.{◌≡◌, ℕ, inl, inr, List, Some, slice_get, refl, sym, ◌∙◌, ap, subst}
use Rattle.std.proofs.lemmas.Option.{same_Some}
use Rattle.dl_base.specs.Ontology.{Terminology}
use Rattle.dl_base.specs.Derivation.{inverse}
use Rattle.dl_base.specs.Tables.{TableRow, ConceptRow}
use Rattle.dl_base.specs.Completion.{Node, Individual, WitnessOf, IsNode, IsLive, first, next, NodePoints, Represents, AreCompleted, CompletesConcept}
use Rattle.dl_base.specs.declared.concept.Role.{Role}
use Rattle.dl_base.specs.declared.element.Elem.{Elem}
use Rattle.dl_base.specs.declared.element.Elem.TheVariants as elem
use Rattle.dl_base.specs.declared.element.Witness.{Witness}
use Rattle.dl_base.specs.declared.row.NamedRow.{NamedRow}
use Rattle.dl_base.proofs.RoleLemmas.{inverse_twice}
use Rattle.dl_base.proofs.RowLemmas.{ends_of_row}
use Rattle.query_shape.specs.Shape.{HoldsAt, IsTermOf}
use Rattle.query_shape.specs.declared.layout.ShapeAtom.{ShapeAtom}
use Rattle.query_shape.specs.declared.layout.ShapeAtom.TheVariants as shape
use Rattle.match_filter.specs.Links.{IsLinkOf}
use Rattle.query_shape.specs.TreeWitness.{IsOn}
use Rattle.match_filter.proofs.Leads.{LeadsAt, Leads, IsRoleRow, edge_leads}

-- an element of the tables is on this node, which exists
pub record StandsOn (o : Terminology) (rows : List NamedRow) (names : List (List ℕ)) (generation : Role → ℕ) (e : Elem) : Type 0 where
  pub node : Node
  pub is : Represents names generation e node
  pub there : IsNode o rows node

-- the parent's image is a node that points to the child's image, a witness
pub record PointsTo (o : Terminology) (rows : List NamedRow) (names : List (List ℕ)) (generation : Role → ℕ) (images : List Elem) (p c : ℕ) : Type 0 where
  pub witness : Witness
  pub at : slice_get images c ≡ Some (elem.Shared witness)
  pub current : witness.generation ≡ generation witness.role
  pub parent : Elem
  pub parent_at : slice_get images p ≡ Some parent
  pub node : Node
  pub node_is : Represents names generation parent node
  pub points : NodePoints o rows node witness.role

module _ (o : Terminology) (rows : List NamedRow) where
  pointed : (x : Node) (r : Role) → NodePoints o rows x r → IsNode o rows x × IsLive o rows r
  pointed (Individual a) r points = (points.individual, first a points)
  pointed (WitnessOf s) r points = (points.0, next points.0 points.1)

  leads_nodes : (r : Role) (x y : Node) → Leads o rows r x y → IsNode o rows x × IsNode o rows y
  leads_nodes r x y (inl row) =
      let ends = ends_of_row o rows r row.from row.to row.row in
      (subst (IsNode o rows) (sym row.from_is) ends.0, subst (IsNode o rows) (sym row.to_is) ends.1)
  leads_nodes r x y (inr (inl found)) = let both = pointed x r found.1 in (both.0, subst (IsNode o rows) (sym found.0) both.1)
  leads_nodes r x y (inr (inr back)) = let both = pointed y (inverse r) back.1 in (subst (IsNode o rows) (sym back.0) both.1, both.0)

-- the node of an image on the witness of a role
pub node_of_on : (names : List (List ℕ)) (generation : Role → ℕ) (images : List Elem) (k : ℕ) (e : Elem) (x : Node) (r : Role) → slice_get images k ≡ Some e → Represents names generation e x → IsOn images r k → x ≡ WitnessOf r
node_of_on names generation images k e (Individual a) r at is (w, at_w, role) = absurd (subst (λ (f : Elem). Represents names generation f (Individual a)) (same_Some e (elem.Shared w) (sym at ∙ at_w)) is)
node_of_on names generation images k e (WitnessOf s) r at is (w, at_w, role) =
    let both = subst (λ (f : Elem). Represents names generation f (WitnessOf s)) (same_Some e (elem.Shared w) (sym at ∙ at_w)) is in
    ap WitnessOf (sym both.0 ∙ role)

module _ (o : Terminology) (rows : List NamedRow) (names : List (List ℕ)) (generation : Role → ℕ) (table : List TableRow) (completed : AreCompleted o rows names generation table) (images : List Elem) where
  -- each term of an atom is on a node
  pub term_stands : (a : ShapeAtom) (k : ℕ) (e : Elem) → IsTermOf k a → HoldsAt table images a → slice_get images k ≡ Some e → StandsOn o rows names generation e
  term_stands (shape.Concept c n) k e is (f, at, row) image =
      let same : f ≡ e = same_Some f e (sym at ∙ (ap (slice_get images) (sym is) ∙ image)) in
      let completes : CompletesConcept o rows names generation c f = (completed.each (ConceptRow c f)).0 row in
      subst (StandsOn o rows names generation) same (record { node = completes.node; is = completes.is; there = completes.there })
  term_stands (shape.Role r n m) k e (inl is) (f, g, from, to, row) image =
      let same : f ≡ e = same_Some f e (sym from ∙ (ap (slice_get images) (sym is) ∙ image)) in
      let leads : LeadsAt o rows names generation r f g = edge_leads o rows names generation table completed r f g row in
      subst (StandsOn o rows names generation) same (record { node = leads.from; is = leads.from_is; there = (leads_nodes o rows r leads.from leads.to leads.leads).0 })
  term_stands (shape.Role r n m) k e (inr is) (f, g, from, to, row) image =
      let same : g ≡ e = same_Some g e (sym to ∙ (ap (slice_get images) (sym is) ∙ image)) in
      let leads : LeadsAt o rows names generation r f g = edge_leads o rows names generation table completed r f g row in
      subst (StandsOn o rows names generation) same (record { node = leads.to; is = leads.to_is; there = (leads_nodes o rows r leads.from leads.to leads.leads).1 })

  -- an image that is the witness of a role
  pub on_of : (k : ℕ) (e : Elem) (r : Role) → slice_get images k ≡ Some e → Represents names generation e (WitnessOf r) → IsOn images r k
  on_of k (elem.Named n) r at is = absurd is
  on_of k (elem.Shared w) r at is = (w, at, is.0)

  -- the node of the parent points to the witness on which the child is
  linked_points : (p c : ℕ) (e f : Elem) (x : Node) (r : Role) → slice_get images p ≡ Some e → slice_get images c ≡ Some f → Represents names generation e x → Represents names generation f (WitnessOf r)
      → NodePoints o rows x r → PointsTo o rows names generation images p c
  linked_points p c e (elem.Named n) x r at_p at_c is_x is points = absurd is
  linked_points p c e (elem.Shared w) x r at_p at_c is_x is points =
      record {
        witness = w;
        at = at_c;
        current = is.1 ∙ ap generation (sym is.0);
        parent = e;
        parent_at = at_p;
        node = x;
        node_is = is_x;
        points = subst (NodePoints o rows x) (sym is.0) points;
      }

  forward : (r : Role) (n m : ℕ) → HoldsAt table images (shape.Role r n m) → IsOn images r m → PointsTo o rows names generation images n m
  forward r n m (e, f, from, to, row) on = by (edge_leads o rows names generation table completed r e f row)
    where
      case : (x y : Node) → Represents names generation e x → Represents names generation f y → y ≡ WitnessOf r → Leads o rows r x y → PointsTo o rows names generation images n m
      case x y is_x is_y witness (inl base) = absurd (let e : Individual base.to ≡ WitnessOf r = sym base.to_is ∙ witness in cc)
      case x y is_x is_y witness (inr (inl found)) = linked_points n m e f x r from to is_x (subst (Represents names generation f) witness is_y) found.1
      case x y is_x is_y witness (inr (inr back)) = absurd ((subst (λ (z : Node). NodePoints o rows z (inverse r)) witness back.1).1.not_back refl)

      by : LeadsAt o rows names generation r e f → PointsTo o rows names generation images n m
      by leads = case leads.from leads.to leads.from_is leads.to_is (node_of_on names generation images m f leads.to r to leads.to_is on) leads.leads

  backward : (r : Role) (n m : ℕ) → HoldsAt table images (shape.Role r n m) → IsOn images (inverse r) n → PointsTo o rows names generation images m n
  backward r n m (e, f, from, to, row) on = by (edge_leads o rows names generation table completed r e f row)
    where
      case : (x y : Node) → Represents names generation e x → Represents names generation f y → x ≡ WitnessOf (inverse r) → Leads o rows r x y → PointsTo o rows names generation images m n
      case x y is_x is_y witness (inl base) = absurd (let e : Individual base.from ≡ WitnessOf (inverse r) = sym base.from_is ∙ witness in cc)
      case x y is_x is_y witness (inr (inl found)) = absurd ((subst (λ (z : Node). NodePoints o rows z r) witness found.1).1.not_back (sym (inverse_twice r)))
      case x y is_x is_y witness (inr (inr back)) = linked_points m n f e y (inverse r) to from is_y (subst (Represents names generation e) witness is_x) back.1

      by : LeadsAt o rows names generation r e f → PointsTo o rows names generation images m n
      by leads = case leads.from leads.to leads.from_is leads.to_is (node_of_on names generation images n e leads.from (inverse r) from leads.from_is on) leads.leads

  pub link_points : (a : ShapeAtom) → HoldsAt table images a → (p c : ℕ) → IsLinkOf images a p c → PointsTo o rows names generation images p c
  link_points (shape.Concept d n) holds p c l = absurd l
  link_points (shape.Role r n m) holds p c (inl (p_is, c_is, on)) =
      subst (λ (k : ℕ). PointsTo o rows names generation images k c) (sym p_is) (subst (λ (k : ℕ). PointsTo o rows names generation images n k) (sym c_is) (forward r n m holds on))
  link_points (shape.Role r n m) holds p c (inr (p_is, c_is, off, on)) =
      subst (λ (k : ℕ). PointsTo o rows names generation images k c) (sym p_is) (subst (λ (k : ℕ). PointsTo o rows names generation images m k) (sym c_is) (backward r n m holds on))

  -- where neither term is on the witness, the images are individuals in a row
  pub row_between : (r : Role) (n m : ℕ) → (h : HoldsAt table images (shape.Role r n m)) → (IsOn images r m → ⊥) → (IsOn images (inverse r) n → ⊥)
      → (x : Node) × (y : Node) × Represents names generation h.0 x × Represents names generation h.1 y × IsRoleRow o rows r x y
  row_between r n m (e, f, from, to, row) not_child not_parent = by (edge_leads o rows names generation table completed r e f row)
    where
      case : (x y : Node) → Represents names generation e x → Represents names generation f y → Leads o rows r x y → IsRoleRow o rows r x y
      case x y is_x is_y (inl base) = base
      case x y is_x is_y (inr (inl found)) = absurd (not_child (on_of m f r to (subst (Represents names generation f) found.0 is_y)))
      case x y is_x is_y (inr (inr back)) = absurd (not_parent (on_of n e (inverse r) from (subst (Represents names generation e) back.0 is_x)))

      by : LeadsAt o rows names generation r e f → (x : Node) × (y : Node) × Represents names generation e x × Represents names generation f y × IsRoleRow o rows r x y
      by leads = (leads.from, leads.to, leads.from_is, leads.to_is, case leads.from leads.to leads.from_is leads.to_is leads.leads)
