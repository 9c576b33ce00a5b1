-- The entries that are gathered from completed tables are those that hold of the base.
use Rattle.std.proofs.Common.{◌≡◌, ◌↔◌, ℕ, inl, inr, true, false, List, map, Contains, Some, option_map, slice_get, Result, Ok, Err, IfOk, refl, sym, ◌∙◌, ap, subst}
use Rattle.std.specs.List.Sorted.{IsStrictlySortedBy}
use Rattle.dl_base.specs.Completion.{Node, Individual, WitnessOf, IsNode, NodePoints, RoleLeads, Represents, CompletesConcept, CompletesRole}
use Rattle.dl_base.specs.Ontology.{Terminology}
use Rattle.dl_base.specs.Rows.{IsIndividual}
use Rattle.dl_base.specs.Tables.{ConceptRow, RoleRow}
use Rattle.dl_base.specs.declared.axiom.NamedRole.{NamedRole}
use Rattle.dl_base.specs.declared.concept.Role.{Role}
use Rattle.dl_base.specs.declared.element.Elem.{Elem}
use Rattle.dl_base.specs.declared.element.Elem.TheVariants as elem
use Rattle.dl_base.specs.declared.row.NamedRow.{NamedRow}
use Rattle.dl_base.proofs.PlaceLemmas.{place_of}
use Rattle.dl_base.proofs.RowLemmas.{ends_of_row}
use Rattle.completion.specs.Completed.{Completion}
use Rattle.completion.specs.Named.{IsNamedCompletion}
use Rattle.witness_book.specs.Witnesses.{generation_of}
use Rattle.table_report.specs.TableLines.{Member, NamedIndividual, WitnessBy, Entry, WitnessEntry, ConceptEntry, RoleEntry, role_by_name, node_member, IsLiveAt, IsInConcept, AreLinked, HoldsEntry, entry_cmp, entry_text, AreTableLines}
use Rattle.table_report.specs.Gathered.{both, elem_member, row_entry, witness_entry, IsOfLive, IsOfConcept, IsOfRole, IsGathered, entry_of}
use Rattle.table_report.specs.declared.entry.EntryRef.{EntryRef}
use Rattle.table_report.proofs.LookupLemmas.{mapped, both_parts}

module _ (o : Terminology) (names : List (List ℕ)) (rows : List NamedRow) (c : Completion) (are : IsNamedCompletion o names rows c) where
  abbrev generation : Role → ℕ
  generation = generation_of c.book

  -- an element is named as its node is
  same_member : (e : Elem) (n : Node) → Represents names generation e n → elem_member o names e ≡ node_member o n
  same_member (elem.Named k) (Individual a) is = ap (option_map NamedIndividual) is
  same_member (elem.Named k) (WitnessOf r) is = absurd is
  same_member (elem.Shared w) (Individual a) is = absurd is
  same_member (elem.Shared w) (WitnessOf r) is = ap (λ (s : Role). option_map WitnessBy (role_by_name o s)) is.0

  -- nodes have elements
  abbrev HasElem : Node → Type 0
  HasElem n = (e : Elem) × Represents names generation e n

  individual_elem : (a : List ℕ) → IsIndividual rows a → HasElem (Individual a)
  individual_elem a there = let found = are.numbered a there in (elem.Named found.0, place_of names a found)

  witness_elem : (r : Role) → HasElem (WitnessOf r)
  witness_elem r = (elem.Shared (record { role = r; generation = generation r }), (refl, refl))

  node_elem : (n : Node) → IsNode o rows n → HasElem n
  node_elem (Individual a) there = individual_elem a there
  node_elem (WitnessOf r) there = witness_elem r

  pointing_elem : (n : Node) (r : Role) → NodePoints o rows n r → HasElem n
  pointing_elem (Individual a) r points = individual_elem a points.individual
  pointing_elem (WitnessOf s) r points = witness_elem s

  end_elems : (p : ℕ) (x y : Node) → RoleLeads o rows p x y → HasElem x × HasElem y
  end_elems p x y (inl base) =
      let ends = ends_of_row o rows (record { name = p; inverse = false }) base.from base.to base.row in
      (subst HasElem (sym base.from_is) (individual_elem base.from ends.0), subst HasElem (sym base.to_is) (individual_elem base.to ends.1))
  end_elems p x y (inr (inl (is, points))) = (pointing_elem x (record { name = p; inverse = false }) points, subst HasElem (sym is) (witness_elem (record { name = p; inverse = false })))
  end_elems p x y (inr (inr (is, points))) = (subst HasElem (sym is) (witness_elem (record { name = p; inverse = true })), pointing_elem y (record { name = p; inverse = true }) points)

  -- ---- what is gathered holds

  live_holds : (r : Role) (x : Entry) → IsOfLive o c.book r x → HoldsEntry o rows generation x
  live_holds r x (live, is) =
      let named = mapped (λ n. WitnessEntry n (generation r)) (role_by_name o r) x is in
      subst (HoldsEntry o rows generation) (sym named.2) (record { role = r; name = named.1; live = (are.live r).0 live; generation_is = refl })

  concept_holds : (k : ℕ) (x : Entry) → IsOfConcept o names c.rows k x → HoldsEntry o rows generation x
  concept_holds k x (e, there, is) =
      let parts = both_parts ConceptEntry (slice_get o.concepts k) (elem_member o names e) x is in
      let completed = (are.tables.each (ConceptRow k e)).0 there in
      subst (HoldsEntry o rows generation) (sym parts.4) (record {
        place = k;
        name = parts.2;
        node = completed.node;
        is = sym (same_member e completed.node completed.is) ∙ parts.3;
        there = completed.there;
        derived = completed.derived;
      })

  role_holds : (p : ℕ) (x : Entry) → IsOfRole o names c.rows p x → HoldsEntry o rows generation x
  role_holds p x (e, (f, there, is)) =
      let parts = both_parts (λ (role : List ℕ) (ends : Member × Member). RoleEntry role ends.0 ends.1) (slice_get o.roles p) (both (λ (m n : Member). (m, n)) (elem_member o names e) (elem_member o names f)) x is in
      let ends = both_parts (λ (m n : Member). (m, n)) (elem_member o names e) (elem_member o names f) parts.1 parts.3 in
      let completed = (are.tables.each (RoleRow p e f)).0 there in
      let is_entry : x ≡ RoleEntry parts.0 ends.0 ends.1 = parts.4 ∙ ap (λ (z : Member × Member). RoleEntry parts.0 z.0 z.1) ends.4 in
      subst (HoldsEntry o rows generation) (sym is_entry) (record {
        place = p;
        name = parts.2;
        from = completed.from;
        to = completed.to;
        from_is = sym (same_member e completed.from completed.from_is) ∙ ends.2;
        to_is = sym (same_member f completed.to completed.to_is) ∙ ends.3;
        leads = completed.leads;
      })

  gathered_holds : (x : Entry) → IsGathered o names c.book c.rows x → HoldsEntry o rows generation x
  gathered_holds x (inl (r, live)) = live_holds r x live
  gathered_holds x (inr (inl (k, found))) = concept_holds k x found
  gathered_holds x (inr (inr (p, found))) = role_holds p x found

  -- ---- what holds is gathered

  live_gathered : (r : NamedRole) (g : ℕ) → IsLiveAt o rows generation r g → IsGathered o names c.book c.rows (WitnessEntry r g)
  live_gathered r g h = inl (
    h.role,
    (
      (are.live h.role).1 h.live,
      let is : witness_entry o c.book h.role ≡ Some (WitnessEntry r (generation h.role)) = ap (option_map (λ n. WitnessEntry n (generation h.role))) h.name in
          is ∙ ap (λ (k : ℕ). Some (WitnessEntry r k)) (sym h.generation_is),
    ),
  )

  concept_gathered : (k : List ℕ) (m : Member) → IsInConcept o rows k m → IsGathered o names c.book c.rows (ConceptEntry k m)
  concept_gathered k m h =
      let e = node_elem h.node h.there in
      let completes : CompletesConcept o rows names generation h.place e.0 = record { node = h.node; is = e.1; there = h.there; derived = h.derived } in
      let member : elem_member o names e.0 ≡ Some m = same_member e.0 h.node e.1 ∙ h.is in
      let name = h.name in
      let is : row_entry o names (ConceptRow h.place e.0) ≡ Some (ConceptEntry k m) = λ j. both ConceptEntry (name j) (member j) in
      inr (inl (h.place, (e.0, (are.tables.each (ConceptRow h.place e.0)).1 completes, is)))

  role_gathered : (p : List ℕ) (m n : Member) → AreLinked o rows p m n → IsGathered o names c.book c.rows (RoleEntry p m n)
  role_gathered p m n h =
      let ends = end_elems h.place h.from h.to h.leads in
      let e = ends.0 in
      let f = ends.1 in
      let completes : CompletesRole o rows names generation h.place e.0 f.0 = record { from = h.from; to = h.to; from_is = e.1; to_is = f.1; leads = h.leads } in
      let from : elem_member o names e.0 ≡ Some m = same_member e.0 h.from e.1 ∙ h.from_is in
      let to : elem_member o names f.0 ≡ Some n = same_member f.0 h.to f.1 ∙ h.to_is in
      let name = h.name in
      let is : row_entry o names (RoleRow h.place e.0 f.0) ≡ Some (RoleEntry p m n) =
      λ j. both (λ (role : List ℕ) (z : Member × Member). RoleEntry role z.0 z.1) (name j) (both (λ (x y : Member). (x, y)) (from j) (to j)) in
      inr (inr (h.place, (e.0, (f.0, (are.tables.each (RoleRow h.place e.0 f.0)).1 completes, is))))

  holds_gathered : (x : Entry) → HoldsEntry o rows generation x → IsGathered o names c.book c.rows x
  holds_gathered (WitnessEntry r g) h = live_gathered r g h
  holds_gathered (ConceptEntry k m) h = concept_gathered k m h
  holds_gathered (RoleEntry p m n) h = role_gathered p m n h

  -- ---- so their texts in order are the lines

  lines_of : (gathered ordered : List EntryRef) (lines : List (List ℕ)) → ((x : Entry) → Contains (map entry_of gathered) x ↔ IsGathered o names c.book c.rows x)
      → IsStrictlySortedBy entry_cmp (map entry_of ordered) → ((x : Entry) → Contains (map entry_of ordered) x ↔ Contains (map entry_of gathered) x)
      → lines ≡ map entry_text (map entry_of ordered) → AreTableLines o rows generation lines
  lines_of gathered ordered lines all rising same is = record {
    entries = map entry_of ordered;
    rising = rising;
    each = λ x. (λ there. gathered_holds x ((all x).0 ((same x).0 there)), λ holds. (same x).1 ((all x).1 (holds_gathered x holds)));
    texts = is;
  }

  pub table_lines : {E : Type 0} (gathered ordered : List EntryRef) (result : Result (List (List ℕ)) E) → ((x : Entry) → Contains (map entry_of gathered) x ↔ IsGathered o names c.book c.rows x)
      → IsStrictlySortedBy entry_cmp (map entry_of ordered) → ((x : Entry) → Contains (map entry_of ordered) x ↔ Contains (map entry_of gathered) x)
      → IfOk result (λ lines. lines ≡ map entry_text (map entry_of ordered)) → IfOk result (AreTableLines o rows generation)
  table_lines gathered ordered (Ok lines) all rising same is = lines_of gathered ordered lines all rising same is
  table_lines gathered ordered (Err e) all rising same is = tt
