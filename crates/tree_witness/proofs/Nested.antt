-- Where a match passes, each term of a tree witness below its top is on the witness of its last role.
use Rattle.std.proofs.Common.{◌≡◌, ◌≢◌, ℕ, inl, inr, List, [], ◌∷◌, Some, slice_get, Contains, refl, sym, ◌∙◌, ap, subst}
use Rattle.std.proofs.lemmas.Option.{same_Some}
use Rattle.dl_base.specs.Ontology.{Terminology}
use Rattle.dl_base.specs.Derivation.{inverse}
use Rattle.dl_base.specs.Tables.{TableRow}
use Rattle.dl_base.specs.Completion.{Node, Individual, WitnessOf, NodePoints, Represents, AreCompleted}
use Rattle.dl_base.specs.declared.concept.Role.{Role}
use Rattle.dl_base.specs.declared.element.Elem.{Elem}
use Rattle.dl_base.specs.declared.element.Elem.TheVariants as elem
use Rattle.dl_base.specs.declared.row.NamedRow.{NamedRow}
use Rattle.dl_base.proofs.RoleLemmas.{inverse_twice}
use Rattle.dl_base.proofs.ShortLemmas.{node_once}
use Rattle.query_shape.specs.Shape.{HoldsAt}
use Rattle.query_shape.specs.TreeWitness.{IsOn, IsOriented, TreeWitness, top, first, back, further, PassesTrees}
use Rattle.query_shape.specs.declared.layout.ShapeAtom.{ShapeAtom}
use Rattle.query_shape.specs.declared.layout.ShapeAtom.TheVariants as shape
use Rattle.query_shape.proofs.MatchList.{Decided}
use Rattle.match_filter.proofs.Leads.{IsRoleRow}
use Rattle.match_filter.proofs.Nodes.{PointsTo, link_points, node_of_on, row_between}
use Rattle.match_filter.proofs.Choices.{decide_on, role_of}
use Rattle.tree_witness.proofs.Turned.{on_once, oriented_holds, hangs_behind}

-- The term hangs at the role alone below some parent, which has a child on the role's witness, and so is the term.
record HangsAt (atoms : List ShapeAtom) (images : List Elem) (p : Role) (Above : ℕ → Type 0) (s : ℕ) : Type 0 where
  parent : ℕ
  child : ℕ
  above : Above parent
  atom : IsOriented atoms p parent child
  on : IsOn images p child
  hangs : TreeWitness atoms p parent s (p ∷ [])
  here : IsOn images p s

module _ (o : Terminology) (rows : List NamedRow) (names : List (List ℕ)) (generation : Role → ℕ) (table : List TableRow) (completed : AreCompleted o rows names generation table)
    (images : List Elem) (atoms : List ShapeAtom) (holds : (a : ShapeAtom) → Contains atoms a → HoldsAt table images a) where
  -- the row of an oriented atom
  pub row : (r : Role) (s u : ℕ) → IsOriented atoms r s u → HoldsAt table images (shape.Role r s u)
  row r s u atom = oriented_holds table images atoms holds r s u atom

  -- where a term is on a node that points to the role, its atom by the role leads to the role's witness
  step_from : (r : Role) (s u : ℕ) (e : Elem) (x : Node) → IsOriented atoms r s u → slice_get images s ≡ Some e → Represents names generation e x → NodePoints o rows x r → IsOn images r u
  step_from r s u e x atom at is points = by (decide_on images r u)
    where
      no_row : (y z : Node) → Represents names generation e y → IsRoleRow o rows r y z → ⊥
      no_row y z is_y there =
          (subst (λ (n : Node). NodePoints o rows n r) (node_once names generation e x y is is_y ∙ there.from_is) points).no_row there.to there.row

      not_back : IsOn images (inverse r) s → ⊥
      not_back on =
          (subst (λ (n : Node). NodePoints o rows n r) (node_of_on names generation images s e x (inverse r) at is on) points).1.not_back (sym (inverse_twice r))

      by : Decided (IsOn images r u) → IsOn images r u
      by (inl on) = on
      by (inr off) =
          let h : HoldsAt table images (shape.Role r s u) = row r s u atom in
          let found = row_between o rows names generation table completed images r s u h off not_back in
          absurd (no_row found.0 found.1 (subst (λ (f : Elem). Represents names generation f found.0) (same_Some h.0 e (sym h.2 ∙ at)) found.2) found.4)

  -- an atom leads from a witness to that of the atom's role, but where it goes back
  step_on : (q p : Role) (s u : ℕ) → IsOriented atoms p s u → IsOn images q s → p ≢ inverse q → IsOn images p u
  step_on q p s u atom on other = by (decide_on images p u)
    where
      no_individual : (e : Elem) (x y : Node) → slice_get images s ≡ Some e → Represents names generation e x → IsRoleRow o rows p x y → ⊥
      no_individual e x y at is there =
          let witness : x ≡ WitnessOf q = node_of_on names generation images s e x q at is on in
          let individual : WitnessOf q ≡ Individual there.from = sym witness ∙ there.from_is in
          cc

      not_back : IsOn images (inverse p) s → ⊥
      not_back up = other (sym (inverse_twice p) ∙ ap inverse (on_once images (inverse p) q s up on))

      by : Decided (IsOn images p u) → IsOn images p u
      by (inl there) = there
      by (inr off) =
          let h : HoldsAt table images (shape.Role p s u) = row p s u atom in
          let found = row_between o rows names generation table completed images p s u h off not_back in
          absurd (no_individual h.0 found.0 found.1 h.2 found.2 found.4)

  -- the node of a term with a child by the role points to it
  pub points_down : (r : Role) (t u : ℕ) → IsOriented atoms r t u → IsOn images r u → (e : Elem) × (x : Node) × (slice_get images t ≡ Some e) × Represents names generation e x × NodePoints o rows x r
  points_down r t u atom on =
      let to : PointsTo o rows names generation images t u = link_points o rows names generation table completed images (shape.Role r t u) (row r t u atom) t u (inl (refl, refl, on)) in
      (to.parent, to.node, to.parent_at, to.node_is, subst (NodePoints o rows to.node) (on_once images to.witness.role r u (to.witness, to.at, refl) on) to.points)

  -- so it isn't the witness of the inverse
  pub not_back_down : (q r : Role) (t u : ℕ) → IsOriented atoms r t u → IsOn images r u → IsOn images q t → r ≢ inverse q
  not_back_down q r t u atom on top_on =
      let (e, x, at, is, points) = points_down r t u atom on in
      (subst (λ (n : Node). NodePoints o rows n r) (node_of_on names generation images t e x q at is top_on) points).1.not_back

  -- a term with the image of another is on the same witness
  moved : (q : Role) (u s : ℕ) → slice_get images u ≡ slice_get images s → IsOn images q s → IsOn images q u
  moved q u s same (x, at, is) = (x, same ∙ at, is)

  module _ (passes : PassesTrees atoms images) where
    module _ (r : Role) (t : ℕ) (child : ℕ) (atom : IsOriented atoms r t child) (on : IsOn images r child) where
      tops : (p : Role) (m u : ℕ) → IsOriented atoms p m u → IsOn images p u → (s : ℕ) → TreeWitness atoms p m s [] → slice_get images s ≡ slice_get images m
      tops p m u has there s hangs = (passes p m u has there).1 s hangs

      -- the last role is that of the whole, or it doesn't go back
      abbrev Fits : Role → List Role → Type 0
      Fits p [] = p ≡ r
      Fits p (q ∷ w) = p ≢ inverse q

      -- the term hangs at the last role below a parent with the roles before it; with none it has the image of the top
      abbrev Follows : List Role → ℕ → Type 0
      Follows [] s = slice_get images s ≡ slice_get images t
      Follows (p ∷ w) s = HangsAt atoms images p (Follows w) s × Fits p w

      step_up : (p : Role) (w : List Role) (s u : ℕ) → IsOriented atoms (inverse p) s u → (b : HangsAt atoms images p (Follows w) s) → Fits p w → Follows w u
      step_up p [] s u up b fits = tops p b.parent b.child b.atom b.on u (back b.hangs up) ∙ b.above
      step_up p (q ∷ w) s u up b fits =
          let a : HangsAt atoms images q (Follows w) b.parent = b.above.0 in (
            record {
              parent = a.parent;
              child = a.child;
              above = a.above;
              atom = a.atom;
              on = a.on;
              hangs = hangs_behind atoms q a.parent q [] p b.parent a.hangs fits (back b.hangs up);
              here = moved q u b.parent (tops p b.parent b.child b.atom b.on u (back b.hangs up)) a.here;
            },
            b.above.1,
          )

      first_on : (s u : ℕ) → slice_get images s ≡ slice_get images t → IsOriented atoms r s u → IsOn images r u
      first_on s u same down = let (e, x, at, is, points) = points_down r t child atom on in step_from r s u e x down (same ∙ at) is points

      follows : {s : ℕ} {w : List Role} → TreeWitness atoms r t s w → Follows w s
      follows (top is) = ap (slice_get images) is
      follows (first {s} {u} h down) = (record { parent = t; child = child; above = refl; atom = atom; on = on; hangs = first h down; here = first_on s u (follows h) down }, refl)
      follows (back {s} {u} {q} {w} h up) = step_up q w s u up (follows h).0 (follows h).1
      follows (further {s} {u} {p} {q} {w} h down other) =
          (record { parent = s; child = u; above = follows h; atom = down; on = step_on q p s u down (follows h).0.here other; hangs = first (top refl) down; here = step_on q p s u down (follows h).0.here other }, other)

      -- a term with a last role is on its witness
      pub hangs_on : (s : ℕ) (p : Role) (w : List Role) → TreeWitness atoms r t s (p ∷ w) → IsOn images p s
      hangs_on s p w h = (follows h).0.here
