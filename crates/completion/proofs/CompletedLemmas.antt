-- Rows of completed tables by numbers are those of the definition, by names.
use Rattle.std.proofs.Common.{◌≡◌, ℕ, ◌↔◌, inl, inr, false, List, slice_get, Contains, Some, refl, sym, ap, subst}
use Rattle.completion.specs.Completed.{Completion, IsCompletionOf}
use Rattle.completion.specs.Edges.{ElemPoints, IsDerivedElem, IsLiveWitness, IsTableRow, LeadsBetween, by_row, forth, back, witness_of}
use Rattle.completion.specs.Named.{IsNamedCompletion}
use Rattle.dl_base.specs.Numbers.{NumbersRow, StandFor}
use Rattle.completion.specs.Numbered.{HoldsBy, IsLiveRole}
use Rattle.completion.proofs.EdgeLemmas.{points_live}
use Rattle.completion.proofs.NamedLemmas.{held_holds, holds_held, live_named, live_numbered, name_of, named_individual, number_of, one_number, same_held, points_named, points_numbered}
use Rattle.dl_base.specs.Completion.{AreCompleted, CompletesRole, DerivedAtNode, IsCompletedRow, IsLive, IsNode, Node, Individual, WitnessOf, NodePoints, Represents, RoleLeads, RolePoints}
use Rattle.dl_base.specs.Derivation.{inverse}
use Rattle.dl_base.specs.Ontology.{Terminology, IsTerminology}
use Rattle.dl_base.specs.Rows.{HasRow, Held, IsIndividual}
use Rattle.dl_base.specs.Tables.{TableRow, ConceptRow, RoleRow}
use Rattle.dl_base.specs.declared.concept.Basic.{Basic}
use Rattle.dl_base.specs.declared.concept.Basic.TheVariants as basic
use Rattle.dl_base.specs.declared.concept.Role.{Role}
use Rattle.dl_base.specs.declared.element.Elem.{Elem}
use Rattle.dl_base.specs.declared.element.Elem.TheVariants as elem
use Rattle.dl_base.specs.declared.element.Witness.{Witness}
use Rattle.dl_base.specs.declared.row.NamedRow.{NamedRow}
use Rattle.dl_base.specs.declared.row.NamedRow.TheVariants as named
use Rattle.dl_base.specs.declared.row.Row.{Row}
use Rattle.dl_base.specs.declared.row.Row.TheVariants as row
use Rattle.dl_base.proofs.DerivationLemmas.{monotone}
use Rattle.dl_base.proofs.PlaceLemmas.{member_at, one_place}
use Rattle.horn_closure.proofs.ClosureLemmas.{closure_held}
use Rattle.witness_book.specs.Witnesses.{generation_of}

abbrev direct : ℕ → Role
direct p = record { name = p; inverse = false }

module _ (o : Terminology) (names : List (List ℕ)) (rows : List Row) (these : List NamedRow) (within : IsTerminology o) (stand : StandFor o names rows these) (c : Completion) (is : IsCompletionOf o rows c) where
  abbrev generation : Role → ℕ
  generation = generation_of c.book

  -- ---- nodes

  -- the element is a node
  abbrev At : Elem → Node → Type 0
  At = Represents names generation

  witness_at : (w : Witness) → IsLiveWitness o rows generation w → At (elem.Shared w) (WitnessOf w.role)
  witness_at w is_live = (refl, is_live.now)

  -- a role's node is its witness
  at_witness : (w : Witness) (r : Role) → At (elem.Shared w) (WitnessOf r) → w ≡ witness_of generation r
  at_witness w r at = let role = at.0 in let one = at.1 in λ j. record { role = role j; generation = one j }

  live_witness : (w : Witness) (r : Role) → At (elem.Shared w) (WitnessOf r) → IsLive o these r → IsLiveWitness o rows generation w
  live_witness w r at live =
      let numbered : IsLiveRole o rows r = live_numbered o names rows these within stand live in
      subst (IsLiveWitness o rows generation) (sym (at_witness w r at)) (record { live = numbered; now = refl })

  -- ---- concepts

  concept_node : (b : Basic) (e : Elem) → IsDerivedElem o rows generation b e → (n : Node) × At e n × IsNode o these n × DerivedAtNode o these n b
  concept_node b (elem.Named n) (named, d) =
      let found = name_of o names rows these within stand n named in
      (Individual found.0, found.1, found.2, monotone o.inclusions _ _ (holds_held o names rows these within stand n found.0 found.1) d)
  concept_node b (elem.Shared w) (first, d) = (WitnessOf w.role, witness_at w first, live_named o names rows these within stand first.live, d)

  node_concept : (b : Basic) (e : Elem) (n : Node) → At e n → IsNode o these n → DerivedAtNode o these n b → IsDerivedElem o rows generation b e
  node_concept b (elem.Named n) (Individual a) at there d =
      (named_individual o names rows these within stand n a at there, monotone o.inclusions _ _ (held_holds o names rows these within stand n a at) d)
  node_concept b (elem.Shared w) (WitnessOf r) at there d =
      (live_witness w r at there, subst (λ (s : Role). DerivedAtNode o these (WitnessOf s) b) (sym at.0) d)
  node_concept b (elem.Named n) (WitnessOf r) at there d = absurd at
  node_concept b (elem.Shared w) (Individual a) at there d = absurd at

  -- ---- points

  points_node : (r : Role) (e : Elem) → ElemPoints o rows generation r e → (n : Node) × At e n × NodePoints o these n r
  points_node r (elem.Named n) (named, points) =
      let found = name_of o names rows these within stand n named in
      (Individual found.0, found.1, points_named o names rows these within stand n found.0 found.1 r found.2 points)
  points_node r (elem.Shared w) (first, points) = (WitnessOf w.role, witness_at w first, (live_named o names rows these within stand first.live, points))

  node_points : (r : Role) (e : Elem) (n : Node) → At e n → NodePoints o these n r → ElemPoints o rows generation r e
  node_points r (elem.Named n) (Individual a) at points =
      (named_individual o names rows these within stand n a at points.individual, points_numbered o names rows these within stand n a at r points)
  node_points r (elem.Shared w) (WitnessOf s) at (live, points) = (live_witness w s at live, subst (λ (t : Role). RolePoints o t r) (sym at.0) points)
  node_points r (elem.Named n) (WitnessOf s) at points = absurd at
  node_points r (elem.Shared w) (Individual a) at points = absurd at

  -- the witness of a role to which an element points is the role's node
  witness_node : (r : Role) (e : Elem) → ElemPoints o rows generation r e → At (elem.Shared (witness_of generation r)) (WitnessOf r)
  witness_node r e points = witness_at (witness_of generation r) (record { live = points_live o rows generation r e points; now = refl })

  node_witness : (r : Role) (f : Elem) → At f (WitnessOf r) → f ≡ elem.Shared (witness_of generation r)
  node_witness r (elem.Named n) at = absurd at
  node_witness r (elem.Shared w) at = ap elem.Shared (at_witness w r at)

  -- ---- rows among individuals

  base_row : (p n m : ℕ) (q : NamedRow) → Contains these q → NumbersRow o names q (row.Role p n m)
      → (a b : List ℕ) × (slice_get names n ≡ Some a) × (slice_get names m ≡ Some b) × HasRow o these (direct p) a b
  base_row p n m (named.Role name a b) there numbers = (a, b, numbers.1, numbers.2, record { name = name; named = numbers.0; there = there })
  base_row p n m (named.Concept name a) there numbers = absurd numbers

  row_base : (p n m : ℕ) (a b name : List ℕ) (r : Row) → slice_get names n ≡ Some a → slice_get names m ≡ Some b → slice_get o.roles p ≡ Some name → Contains rows r → NumbersRow o names (named.Role name a b) r
      → Contains rows (row.Role p n m)
  row_base p n m a b name (row.Role q k l) at_n at_m at_p there numbers =
      let role = one_place o.roles q p name within.distinct_roles numbers.0 at_p in
      let from = one_number o names rows these within stand k n a numbers.1 at_n in
      let to = one_number o names rows these within stand l m b numbers.2 at_m in
      subst (Contains rows) (λ j. row.Role (role j) (from j) (to j)) there
  row_base p n m a b name (row.Concept d k) at_n at_m at_p there numbers = absurd numbers

  node_row : (p : ℕ) (e f : Elem) (a b : List ℕ) → At e (Individual a) → At f (Individual b) → HasRow o these (direct p) a b → LeadsBetween o rows generation (direct p) e f
  node_row p (elem.Named n) (elem.Named m) a b at_e at_f has =
      let found = stand.each (named.Role has.name a b) has.there in
      by_row n m (row_base p n m a b has.name found.0 at_e at_f has.named found.1 found.2)
  node_row p (elem.Named n) (elem.Shared w) a b at_e at_f has = absurd at_f
  node_row p (elem.Shared w) f a b at_e at_f has = absurd at_e

  -- ---- roles

  leads_completes : (p : ℕ) (e f : Elem) → LeadsBetween o rows generation (direct p) e f → CompletesRole o these names generation p e f
  leads_completes p _ _ (by_row n m there) =
      let found = stand.only (row.Role p n m) there in
      let named_row = base_row p n m found.0 found.1 found.2 in
      record {
        from = Individual named_row.0;
        to = Individual named_row.1;
        from_is = named_row.2;
        to_is = named_row.3;
        leads = inl (record { from = named_row.0; to = named_row.1; from_is = refl; to_is = refl; row = named_row.4 });
      }
  leads_completes p _ _ (forth e points) =
      let node = points_node (direct p) e points in
      record {
        from = node.0;
        to = WitnessOf (direct p);
        from_is = node.1;
        to_is = witness_node (direct p) e points;
        leads = inr (inl (refl, node.2));
      }
  leads_completes p _ _ (back f points) =
      let node = points_node (inverse (direct p)) f points in
      record {
        from = WitnessOf (inverse (direct p));
        to = node.0;
        from_is = witness_node (inverse (direct p)) f points;
        to_is = node.1;
        leads = inr (inr (refl, node.2));
      }

  completes_leads : (p : ℕ) (e f : Elem) (x y : Node) → At e x → At f y → RoleLeads o these p x y → LeadsBetween o rows generation (direct p) e f
  completes_leads p e f x y at_e at_f (inl base) = node_row p e f base.from base.to (subst (At e) base.from_is at_e) (subst (At f) base.to_is at_f) base.row
  completes_leads p e f x y at_e at_f (inr (inl (to, points))) =
      let pointing = node_points (direct p) e x at_e points in
      subst (LeadsBetween o rows generation (direct p) e) (sym (node_witness (direct p) f (subst (At f) to at_f))) (forth e pointing)
  completes_leads p e f x y at_e at_f (inr (inr (from, points))) =
      let pointing = node_points (inverse (direct p)) f y at_f points in
      subst (λ (g : Elem). LeadsBetween o rows generation (direct p) g f) (sym (node_witness (inverse (direct p)) e (subst (At e) from at_e))) (back f pointing)

  -- ---- all rows

  row_completed : (t : TableRow) → IsTableRow o rows generation t ↔ IsCompletedRow o these names generation t
  row_completed (ConceptRow k e) = (
    λ d. (let found = concept_node (basic.Concept k) e d in record { node = found.0; is = found.1; there = found.2; derived = found.3 }),
    λ h. node_concept (basic.Concept k) e h.node h.is h.there h.derived,
  )
  row_completed (RoleRow p e f) = (leads_completes p e f, λ h. completes_leads p e f h.from h.to h.from_is h.to_is h.leads)

  numbered : (a : List ℕ) → IsIndividual these a → Contains names a
  numbered a individual = let found = number_of o names rows these within stand a individual in member_at names found.0 a found.1

  are_completed : AreCompleted o these names generation c.rows
  are_completed = record { numbered = numbered; each = λ t. (λ there. (row_completed t).0 ((is.table t).0 there), λ h. (is.table t).1 ((row_completed t).1 h)) }

  pub named_completion : IsNamedCompletion o names these c
  named_completion = record {
    numbered = numbered;
    individuals = λ n. (
      λ kept. name_of o names rows these within stand n ((is.individuals.each n).0 kept),
      λ found. (is.individuals.each n).1 (named_individual o names rows these within stand n found.0 found.1 found.2),
    );
    derived = λ n a x at found. closure_held o.inclusions (HoldsBy rows n) (Held o these a) (same_held o names rows these within stand n a at) x.closed (is.individuals.derived n x found).closure;
    live = λ r. (λ has. live_named o names rows these within stand ((is.book.live r).0 has), λ live. (is.book.live r).1 (live_numbered o names rows these within stand live));
    tables = are_completed;
  }
