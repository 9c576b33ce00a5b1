-- Short elements and the nodes that they fold to.
use Rattle.std.proofs.Common.{◌≡◌, ◌≢◌, ℕ, List, AllPairs, refl, sym, ◌∙◌, subst, ap}
use Rattle.std.proofs.lemmas.Option.{same_Some}
use Rattle.dl_base.specs.Ontology.{Terminology}
use Rattle.dl_base.specs.Unfolding.{Element, Named, Next, DerivedAt}
use Rattle.dl_base.specs.Completion.{IsLive, first, next, IsNode, Node, Individual, WitnessOf, NodePoints, DerivedAtNode, Represents}
use Rattle.dl_base.specs.ShortUnfolding.{EndPoints, IsShort, node_of}
use Rattle.dl_base.specs.declared.concept.Role.{Role}
use Rattle.dl_base.specs.declared.concept.Basic.{Basic}
use Rattle.dl_base.specs.declared.element.Elem.{Elem}
use Rattle.dl_base.specs.declared.element.Elem.TheVariants as elem
use Rattle.dl_base.specs.declared.row.NamedRow.{NamedRow}
use Rattle.dl_base.proofs.PlaceLemmas.{one_place}

-- ---- elements of tables and nodes

module _ (names : List (List ℕ)) (generation : Role → ℕ) where
  -- an element of the tables is one node
  pub node_once : (e : Elem) (x y : Node) → Represents names generation e x → Represents names generation e y → x ≡ y
  node_once (elem.Named n) (Individual a) (Individual b) p q = ap Individual (same_Some a b (sym p ∙ q))
  node_once (elem.Named n) (Individual a) (WitnessOf s) p q = absurd q
  node_once (elem.Named n) (WitnessOf r) y p q = absurd p
  node_once (elem.Shared w) (Individual a) y p q = absurd p
  node_once (elem.Shared w) (WitnessOf r) (Individual b) p q = absurd q
  node_once (elem.Shared w) (WitnessOf r) (WitnessOf s) p q = ap WitnessOf (sym p.0 ∙ q.0)

  -- and a node is one element, where names are distinct
  pub elem_once : AllPairs (λ x y. x ≢ y) names → (e f : Elem) (x : Node) → Represents names generation e x → Represents names generation f x → e ≡ f
  elem_once distinct (elem.Named n) (elem.Named m) (Individual a) p q = ap elem.Named (one_place names n m a distinct p q)
  elem_once distinct (elem.Named n) (elem.Named m) (WitnessOf r) p q = absurd p
  elem_once distinct (elem.Named n) (elem.Shared w) (Individual a) p q = absurd q
  elem_once distinct (elem.Named n) (elem.Shared w) (WitnessOf r) p q = absurd p
  elem_once distinct (elem.Shared w) (elem.Named n) (Individual a) p q = absurd p
  elem_once distinct (elem.Shared w) (elem.Named n) (WitnessOf r) p q = absurd q
  elem_once distinct (elem.Shared w) (elem.Shared v) (Individual a) p q = absurd p
  elem_once distinct (elem.Shared w) (elem.Shared v) (WitnessOf r) p q =
      let role = p.0 ∙ sym q.0 in
      let generation_is = p.1 ∙ sym q.1 in
      λ i. elem.Shared (record { role = role i; generation = generation_is i })

-- ---- short elements

module _ (o : Terminology) (rows : List NamedRow) where
  -- what a node points to, so does the end of an element that folds to it
  pub points_end : (e : Element) (r : Role) → NodePoints o rows (node_of e) r → EndPoints o rows e r
  points_end (Named a) r p = p
  points_end (Next e s) r p = p.1

  -- what is derived at a node is derived at each element that folds to it
  pub derived_back : (e : Element) (b : Basic) → DerivedAtNode o rows (node_of e) b → DerivedAt o rows e b
  derived_back (Named a) b d = d
  derived_back (Next e r) b d = d

  -- a short element folds to a node
  pub short_node : (e : Element) → IsShort o rows e → IsNode o rows (node_of e)
  short_node (Named a) s = s
  short_node (Next (Named a) r) s = first a s.1
  short_node (Next (Next e q) r) s = next (short_node (Next e q) s.0) s.1

  -- and some short element folds to each node
  pub live_short : (r : Role) → IsLive o rows r → (e : Element) × IsShort o rows e × (node_of e ≡ WitnessOf r)
  live_short r (first a points) = (Next (Named a) r, (points.individual, points), refl)
  live_short r (next {s} live points) = extended (live_short s live)
    where
      extended : (e : Element) × IsShort o rows e × (node_of e ≡ WitnessOf s) → (e : Element) × IsShort o rows e × (node_of e ≡ WitnessOf r)
      extended (e, short, is) = (Next e r, (short, points_end e r (subst (λ (x : Node). NodePoints o rows x r) (sym is) (live, points))), refl)

  pub node_short : (x : Node) → IsNode o rows x → (e : Element) × IsShort o rows e × (node_of e ≡ x)
  node_short (Individual a) there = (Named a, there, refl)
  node_short (WitnessOf r) live = live_short r live
