-- Where there is no clash, what the ontology and the rows say holds in the structure of the existing elements.
use Rattle.std.proofs.Common.{◌≡◌, ℕ, ◌+◌, inl, inr, Bool, true, false, not, List, [], ◌∷◌, length, slice_get, Some, None, Contains, refl, sym, ◌∙◌, ap, subst}
use Rattle.std.specs.List.{AllByRecursion}
use Rattle.std.proofs.lemmas.List.Elements.{All-contains}
use Rattle.dl_base.specs.Clashes.{IsFirstClash}
use Rattle.dl_base.specs.Derivation.{DerivesAll, leaf, node, none, each, inverse}
use Rattle.dl_base.specs.Laws.{UnfoldingIsModel}
use Rattle.dl_base.specs.Ontology.{Terminology, IsWellFormed, IsPlaced, IsPlacedHead, NamesPlaces}
use Rattle.dl_base.specs.Structure.{IsSuccessor, IsInstance, IsInstanceOfHead, InclusionHolds, RowHolds, IsRowOver}
use Rattle.dl_base.specs.Unfolding.{Element, Next, Start, Exists, DerivedAt, Edge}
use Rattle.dl_base.specs.declared.concept.Basic.{Basic}
use Rattle.dl_base.specs.declared.concept.Basic.TheVariants as basic
use Rattle.dl_base.specs.declared.concept.Head.{Head}
use Rattle.dl_base.specs.declared.concept.Head.TheVariants as head
use Rattle.dl_base.specs.declared.concept.Inclusion.{Inclusion}
use Rattle.dl_base.specs.declared.concept.Role.{Role}
use Rattle.dl_base.specs.declared.row.NamedRow.{NamedRow}
use Rattle.dl_base.specs.declared.row.NamedRow.TheVariants as row
use Rattle.dl_base.proofs.DerivationLemmas.{all-by}
use Rattle.dl_base.proofs.EdgeLemmas.{edge_back, edge_derived}
use Rattle.dl_base.proofs.PlaceLemmas.{one_place, place_of, something_at}

-- a role, by which way it is read
direct : (r : Role) → r.inverse ≡ false → r ≡ record { name = r.name; inverse = false }
direct r e = λ j. record { name = r.name; inverse = e j }

turned : (r : Role) → r.inverse ≡ true → r ≡ inverse (record { name = r.name; inverse = false })
turned r e = λ j. record { name = r.name; inverse = e j }

module _ (o : Terminology) (rows : List NamedRow) where
  -- what leads to an element by name is an edge of the role
  pub leads_edge : (r : Role) (name : List ℕ) (e f : Element) → IsWellFormed o → slice_get o.roles r.name ≡ Some name → IsSuccessor o rows r.inverse name e f → Edge o rows r e f
  leads_edge r name e f within named leads = by r.inverse refl leads
    where
      same_role : (p : ℕ) → slice_get o.roles p ≡ Some name → p ≡ r.name
      same_role p at = one_place o.roles p r.name name within.distinct_roles at named

      by : (t : Bool) → r.inverse ≡ t → IsSuccessor o rows t name e f → Edge o rows r e f
      by false is (p, at, edge) =
          subst (λ (s : Role). Edge o rows s e f) (ap (λ (n : ℕ). record { name = n; inverse = false }) (same_role p at) ∙ sym (direct r is)) edge
      by true is (p, at, edge) =
          subst (λ (s : Role). Edge o rows s e f) (ap (λ (n : ℕ). inverse (record { name = n; inverse = false })) (same_role p at) ∙ sym (turned r is))
          (edge_back o rows (record { name = p; inverse = false }) f e edge)

  pub edge_leads : (r : Role) (name : List ℕ) (e f : Element) → slice_get o.roles r.name ≡ Some name → Edge o rows r e f → IsSuccessor o rows r.inverse name e f
  edge_leads r name e f named edge = by r.inverse refl
    where
      by : (t : Bool) → r.inverse ≡ t → IsSuccessor o rows t name e f
      by false is = (r.name, named, subst (λ (s : Role). Edge o rows s e f) (direct r is) edge)
      by true is = (r.name, named, subst (λ (s : Role). Edge o rows s f e) (inverse_is is) (edge_back o rows r e f edge))
        where
          inverse_is : r.inverse ≡ true → inverse r ≡ record { name = r.name; inverse = false }
          inverse_is e = λ j. record { name = r.name; inverse = not (e j) }

  -- what holds in the structure is derived
  pub holds_derived : (e : Element) (b : Basic) → IsWellFormed o → IsInstance o rows e b → DerivedAt o rows e b
  holds_derived e (basic.Concept c) within (name, at, (d, at_d, derived)) =
      subst (λ (n : ℕ). DerivedAt o rows e (basic.Concept n)) (one_place o.concepts d c name within.distinct_concepts at_d at) derived
  holds_derived e (basic.Exists r) within (name, f, at, there, leads) = edge_derived o rows r e f there (leads_edge r name e f within at leads)

  -- what is derived at an existing element holds there
  pub derived_holds : (e : Element) (b : Basic) → Exists o rows e → IsPlaced (length o.concepts) (length o.roles) b → DerivedAt o rows e b → IsInstance o rows e b
  derived_holds e (basic.Concept c) there placed derived = let named = something_at o.concepts c placed in (named.0, named.1, (c, named.1, derived))
  derived_holds e (basic.Exists r) there placed derived =
      let named = something_at o.roles r.name placed in
      (named.0, Next e r, named.1, (there, derived), edge_leads r named.0 e (Next e r) named.1 (inr (inl refl)))

  all_derived : (e : Element) (bs : List Basic) → IsWellFormed o → AllByRecursion (IsInstance o rows e) bs → DerivesAll o.inclusions (Start o rows e) bs
  all_derived e [] within h = none
  all_derived e (b ∷ bs) within h = each (holds_derived e b within h.0) (all_derived e bs within h.1)

  -- each inclusion holds
  pub inclusion_holds : IsWellFormed o → IsFirstClash o rows None → (i : Inclusion) → Contains o.inclusions i → InclusionHolds o rows i
  inclusion_holds within no_clash i has e there holds = by i.head refl
    where
      body : DerivesAll o.inclusions (Start o rows e) i.body
      body = all_derived e i.body within (all-by (IsInstance o rows e) i.body holds)

      fits : NamesPlaces (length o.concepts) (length o.roles) i
      fits = All-contains (NamesPlaces (length o.concepts) (length o.roles)) o.inclusions i within.placed has

      by : (h : Head) → i.head ≡ h → IsInstanceOfHead o rows e h
      by (head.Basic b) is = derived_holds e b there (subst (IsPlacedHead (length o.concepts) (length o.roles)) is fits.head) (node i has is body)
      by head.Nothing is =
          no_clash (record { element = e; inclusion = has.0 + 1 }) (record {
            exists = there;
            violates = record { before = has.0; number = refl; inclusion = i; at = place_of o.inclusions i has; nothing = is; body = body };
          })

  -- each row holds
  pub row_holds : (r : NamedRow) → Contains rows r → IsRowOver o r → RowHolds o rows r
  row_holds (row.Concept c a) has over =
      let named = place_of o.concepts c over in
      ((row.Concept c a, has, refl), (over.0, named, leaf (record { name = c; named = named; there = has })))
  row_holds (row.Role p a b) has over =
      let named = place_of o.roles p over in (
        (row.Role p a b, has, inl refl),
        (row.Role p a b, has, inr refl),
        (over.0, named, inl (record { from = a; to = b; from_is = refl; to_is = refl; row = record { name = p; named = named; there = has } })),
      )

pub unfolding_model : UnfoldingIsModel
unfolding_model o rows within no_clash = record {
  inclusions_hold = inclusion_holds o rows within no_clash;
  rows_hold = row_holds o rows;
}
