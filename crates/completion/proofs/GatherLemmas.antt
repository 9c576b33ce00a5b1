-- What was gathered is what the definition of completed tables says.
use Rattle.std.proofs.Common.{◌≡◌, ℕ, ◌<◌, ◌≤◌, ◌⊎◌, ◌↔◌, inl, inr, Bool, true, false, List, [], length, Contains, All, refl, sym, ◌∙◌, ap, subst, arith}
use Rattle.std.specs.Prelude.{slice_index_or}
use Rattle.std.proofs.lemmas.List.{get_or_past}
use Rattle.completion.specs.EdgeLists.{edge_of}
use Rattle.completion.specs.Edges.{ElemPoints, IsDerivedElem, IsLiveWitness, IsTableRow, LeadsBetween, by_row, forth, back, witness_of, numbered_row}
use Rattle.completion.specs.Gathered.{AreConceptLists, AreElemsWith, AreListsOfNames, AreRoleLists, IsElemWith, IsFoundWith, IsWitnessWith, role_by_place, row_of_edge}
use Rattle.completion.specs.Individuals.{AreAtIndividuals}
use Rattle.completion.specs.Numbered.{IsLiveRole, IsRowOf}
use Rattle.completion.specs.TableRows.{AreListedSources, KeptRows, RoleLists, lists_at, elements_at, no_lists, one_way, table_of, witness_at}
use Rattle.completion.specs.declared.edges.Edge.{Edge}
use Rattle.completion.specs.declared.gather.Property.{Property}
use Rattle.completion.specs.declared.gather.Property.TheVariants.{Derived, Pointing}
use Rattle.completion.specs.declared.individuals.AtIndividual.{AtIndividual}
use Rattle.completion.proofs.AtLemmas.{holds_placed}
use Rattle.completion.proofs.EdgeLemmas.{derived_leads, leads_derived, points_live}
use Rattle.completion.proofs.KeptLemmas.{IsKeptEdge, concept_kept, edge_kept}
use Rattle.dl_base.specs.Completion.{DerivedBehind}
use Rattle.dl_base.specs.Derivation.{HeldBehind, inverse}
use Rattle.dl_base.specs.Ontology.{Terminology, IsTerminology, IsPlaced}
use Rattle.dl_base.specs.Sets.{HasRole}
use Rattle.dl_base.specs.Tables.{TableRow, ConceptRow, RoleRow, edge_row}
use Rattle.dl_base.specs.declared.concept.Basic.{Basic}
use Rattle.dl_base.specs.declared.concept.Basic.TheVariants as basic
use Rattle.dl_base.specs.declared.concept.Role.{Role}
use Rattle.dl_base.specs.declared.element.Elem.{Elem}
use Rattle.dl_base.specs.declared.element.Elem.TheVariants as elem
use Rattle.dl_base.specs.declared.element.Witness.{Witness}
use Rattle.dl_base.specs.declared.row.Row.{Row}
use Rattle.dl_base.proofs.OntologyLemmas.{derived_placed}
use Rattle.role_graph.proofs.OutsideLemmas.{point_inside}
use Rattle.role_graph.specs.Reached.{first, next}
use Rattle.witness_book.specs.Witnesses.{IsCurrent, Witnesses, generation_of}

-- what an element has by the definition
abbrev Has : Terminology → List Row → (Role → ℕ) → Property → Elem → Type 0
Has o rows generation (Derived b) = IsDerivedElem o rows generation b
Has o rows generation (Pointing r) = ElemPoints o rows generation r

module _ (o : Terminology) (rows : List Row) (within : IsTerminology o) (all : All (IsRowOf o) rows) (list : List (ℕ × AtIndividual)) (at : AreAtIndividuals o rows list) (b : Witnesses)
    (live : (r : Role) → HasRole b.live r ↔ IsLiveRole o rows r) where
  abbrev generation : Role → ℕ
  generation = generation_of b

  -- ---- one element

  named_has : (p : Property) (n : ℕ) → IsFoundWith list p n → Has o rows generation p (elem.Named n)
  named_has (Derived c) n (x, found, had) = ((at.each n).0 (x, found), ((at.derived n x found).closure.derived c).0 had)
  named_has (Pointing r) n (x, found, had) = ((at.each n).0 (x, found), ((at.derived n x found).points r).0 had)

  has_named : (p : Property) (n : ℕ) → Has o rows generation p (elem.Named n) → IsFoundWith list p n
  has_named (Derived c) n (named, is) = let kept = (at.each n).1 named in (kept.0, kept.1, ((at.derived n kept.0 kept.1).closure.derived c).1 is)
  has_named (Pointing r) n (named, is) = let kept = (at.each n).1 named in (kept.0, kept.1, ((at.derived n kept.0 kept.1).points r).1 is)

  live_current : (w : Witness) → IsCurrent b w → IsLiveWitness o rows generation w
  live_current w current = record { live = (live w.role).0 current.live; now = current.generation }

  current_live : (w : Witness) → IsLiveWitness o rows generation w → IsCurrent b w
  current_live w is = record { live = (live w.role).1 is.live; generation = is.now }

  shared_has : (p : Property) (w : Witness) → IsWitnessWith o b p w → Has o rows generation p (elem.Shared w)
  shared_has (Derived c) w with_it = (live_current w with_it.current, with_it.behind)
  shared_has (Pointing r) w with_it = (live_current w with_it.current, with_it.behind)

  has_shared : (p : Property) (w : Witness) → Has o rows generation p (elem.Shared w) → IsWitnessWith o b p w
  has_shared (Derived c) w (is, behind) = record { current = current_live w is; behind = behind }
  has_shared (Pointing r) w (is, behind) = record { current = current_live w is; behind = behind }

  elems_have : (p : Property) (e : Elem) → IsElemWith o list b p e → Has o rows generation p e
  elems_have p (elem.Named n) h = named_has p n h
  elems_have p (elem.Shared w) h = shared_has p w h

  have_elems : (p : Property) (e : Elem) → Has o rows generation p e → IsElemWith o list b p e
  have_elems p (elem.Named n) h = has_named p n h
  have_elems p (elem.Shared w) h = has_shared p w h

  listed : (p : Property) (es : List Elem) → AreElemsWith o list b p es → (e : Elem) → Contains es e ↔ Has o rows generation p e
  listed p es are e = (λ c. elems_have p e ((are e).0 c), λ h. (are e).1 (have_elems p e h))

  -- ---- past the last concept and the last role

  pub live_placed : {r : Role} → IsLiveRole o rows r → r.name < length o.roles
  live_placed {r} (first p) = derived_placed o within _ (holds_placed o rows within all p.0) (basic.Exists r) p.2.derived
  live_placed {r} (next {s} before points) = point_inside o within s r (live_placed before) points

  behind_placed : (s : Role) (c : Basic) → IsLiveRole o rows s → DerivedBehind o s c → IsPlaced (length o.concepts) (length o.roles) c
  behind_placed s c s_live d = derived_placed o within (HeldBehind s) (λ x is. subst (IsPlaced (length o.concepts) (length o.roles)) (sym is) (live_placed s_live)) c d

  elem_placed : (c : Basic) (e : Elem) → IsDerivedElem o rows generation c e → IsPlaced (length o.concepts) (length o.roles) c
  elem_placed c (elem.Named n) (named, d) = derived_placed o within _ (holds_placed o rows within all n) c d
  elem_placed c (elem.Shared w) (is, d) = behind_placed w.role c is.live d

  points_placed_elem : (r : Role) (e : Elem) → ElemPoints o rows generation r e → r.name < length o.roles
  points_placed_elem r e points = live_placed (points_live o rows generation r e points)

  -- ---- all lists

  module _ (k : KeptRows) (concepts : AreConceptLists o list b (length o.concepts) k.concepts) (roles : AreListsOfNames o list b (length o.roles) k.roles) (edges : (x : Edge) → Contains k.edges x ↔ Contains rows (row_of_edge x)) where
    below_or_not : (n m : ℕ) → (n < m) ⊎ (m ≤ n)
    below_or_not n m = grind arith

    member_is : (c : ℕ) (e : Elem) → Contains (elements_at k.concepts c) e ↔ IsDerivedElem o rows generation (basic.Concept c) e
    member_is c e = elim (below_or_not c (length o.concepts)) [
      | inl below ↦ listed (Derived (basic.Concept c)) (elements_at k.concepts c) (concepts.each c below) e
      | inr past ↦ (
        λ there. absurd (none past there),
        λ is. absurd (let below = elem_placed (basic.Concept c) e is in omega (arith, below, past)),
      )
    ]
      where
        none : length o.concepts ≤ c → Contains (elements_at k.concepts c) e → ⊥
        none past there =
            let many = concepts.all in
            let empty : elements_at k.concepts c ≡ [] = get_or_past k.concepts c [] (omega (arith, many, past)) in
            let still : Contains [] e = subst (λ (es : List Elem). Contains es e) empty there in
            omega (arith, still.1)

    -- the lists of a role that the ontology has, and none of another
    role_cases : (r : Role) → (((r.name < length o.roles) × AreRoleLists o list b r (lists_at k.roles r)) ⊎ ((length o.roles ≤ r.name) × (lists_at k.roles r ≡ no_lists)))
    role_cases r = elim (below_or_not r.name (length o.roles)) [
      | inl below ↦ inl (below, roles.each r below)
      | inr past ↦ inr (past, empty r.inverse past)
    ]
      where
        both : (way : Bool) → one_way way (record { direct = no_lists; inverse = no_lists }) ≡ no_lists
        both false = refl
        both true = refl

        empty : (way : Bool) → length o.roles ≤ r.name → one_way way (slice_index_or k.roles r.name (record { direct = no_lists; inverse = no_lists })) ≡ no_lists
        empty way past =
            let many = roles.all in
            let none : slice_index_or k.roles r.name (record { direct = no_lists; inverse = no_lists }) ≡ record { direct = no_lists; inverse = no_lists } = get_or_past k.roles r.name (record { direct = no_lists; inverse = no_lists }) (omega (arith, many, past)) in
            ap (one_way way) none ∙ both way

    pointing_is : (r : Role) (e : Elem) → Contains (lists_at k.roles r).pointing e ↔ ElemPoints o rows generation r e
    pointing_is r e = elim (role_cases r) [
      | inl (below, are) ↦ listed (Pointing r) (lists_at k.roles r).pointing are.pointing e
      | inr (past, empty) ↦ (
        λ there. absurd (let still : Contains [] e = subst (λ (x : RoleLists). Contains x.pointing e) empty there in omega (arith, still.1)),
        λ is. absurd (let below = points_placed_elem r e is in omega (arith, below, past)),
      )
    ]

    sources_are : (r : Role) (e : Elem) → Contains (lists_at k.roles r).sources e ↔ IsDerivedElem o rows generation (basic.Exists r) e
    sources_are r e = elim (role_cases r) [
      | inl (below, are) ↦ listed (Derived (basic.Exists r)) (lists_at k.roles r).sources are.sources e
      | inr (past, empty) ↦ (
        λ there. absurd (let still : Contains [] e = subst (λ (x : RoleLists). Contains x.sources e) empty there in omega (arith, still.1)),
        λ is. absurd (let below = elem_placed (basic.Exists r) e is in omega (arith, below, past)),
      )
    ]

    -- the generation of a role to which an element points is that of the book
    generation_is : (r : Role) (e : Elem) → ElemPoints o rows generation r e → (lists_at k.roles r).generation ≡ generation_of b r
    generation_is r e points =
        let pointed : IsLiveRole o rows r = points_live o rows generation r e points in
        elim (role_cases r) [
          | inl (below, are) ↦ are.generation ((live r).1 pointed)
          | inr (past, empty) ↦ absurd (let below = live_placed pointed in omega (arith, below, past))
        ]

    witness_is : (r : Role) (e : Elem) → ElemPoints o rows generation r e → witness_at r (lists_at k.roles r).generation ≡ elem.Shared (witness_of generation r)
    witness_is r e points = ap (witness_at r) (generation_is r e points)

    edge_is : (way : Bool) (p n m : ℕ) → Contains k.edges (edge_of way p n m) ↔ Contains rows (numbered_row way p n m)
    edge_is false p n m = edges (record { role = p; from = n; to = m })
    edge_is true p n m = edges (record { role = p; from = m; to = n })

    kept_leads : (r : Role) (e f : Elem) → IsKeptEdge k r e f → LeadsBetween o rows generation r e f
    kept_leads r (elem.Named n) f (inl (m, is, there)) = subst (LeadsBetween o rows generation r (elem.Named n)) (sym is) (by_row n m ((edge_is r.inverse r.name n m).0 there))
    kept_leads r (elem.Shared w) f (inl none) = absurd none
    kept_leads r e f (inr (inl (there, is))) =
        let points = (pointing_is r e).0 there in
        subst (LeadsBetween o rows generation r e) (sym (is ∙ witness_is r e points)) (forth e points)
    kept_leads r e f (inr (inr (there, is))) =
        let points = (pointing_is (inverse r) f).0 there in
        subst (λ (g : Elem). LeadsBetween o rows generation r g f) (sym (is ∙ witness_is (inverse r) f points)) (back f points)

    leads_kept : (r : Role) (e f : Elem) → LeadsBetween o rows generation r e f → IsKeptEdge k r e f
    leads_kept r _ _ (by_row n m there) = inl (m, refl, (edge_is r.inverse r.name n m).1 there)
    leads_kept r _ _ (forth e points) = inr (inl ((pointing_is r e).1 points, sym (witness_is r e points)))
    leads_kept r _ _ (back f points) = inr (inr ((pointing_is (inverse r) f).1 points, sym (witness_is (inverse r) f points)))

    edges_are : (r : Role) (e f : Elem) → Contains (table_of k) (edge_row r e f) ↔ LeadsBetween o rows generation r e f
    edges_are r e f = (λ c. kept_leads r e f ((edge_kept k r e f).0 c), λ h. (edge_kept k r e f).1 (leads_kept r e f h))

    pub table_rows_are : (t : TableRow) → Contains (table_of k) t ↔ IsTableRow o rows generation t
    table_rows_are (ConceptRow c e) = (λ h. (member_is c e).0 ((concept_kept k c e).0 h), λ is. (concept_kept k c e).1 ((member_is c e).1 is))
    table_rows_are (RoleRow p e f) = edges_are (role_by_place p false) e f

    pub are_sources : AreListedSources k
    are_sources = record {
      each = λ r e. (
        λ has. (sources_are r e).1 (leads_derived o rows generation r e has.0 ((edges_are r e has.0).0 has.1)),
        λ there. (let leads = derived_leads o rows generation r e ((sources_are r e).0 there) in (leads.0, (edges_are r e leads.0).1 leads.1)),
      );
    }
