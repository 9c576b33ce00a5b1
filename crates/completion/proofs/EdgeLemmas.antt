-- The elements from which a role leads are those at which a successor is derived.
use Rattle.std.proofs.Common.{◌≡◌, ◌≢◌, ℕ, ◌⊎◌, inl, inr, Bool, true, false, not, List, [], ◌∷◌, Contains, refl, sym, ◌∙◌, ap, subst, arith}
use Rattle.std.proofs.lemmas.Bool.{cases_eq}
use Rattle.completion.specs.Edges.{ElemPoints, IsDerivedElem, IsLiveWitness, LeadsBetween, by_row, forth, back, witness_of, numbered_row}
use Rattle.completion.specs.Numbered.{GivesBasic, HoldsBy, IsLiveRole, IsRowNamed}
use Rattle.completion.proofs.HeldLemmas.{gives_named}
use Rattle.dl_base.specs.Completion.{DerivedBehind}
use Rattle.dl_base.specs.Derivation.{Derives, leaf, inverse}
use Rattle.dl_base.specs.Ontology.{Terminology}
use Rattle.dl_base.specs.declared.concept.Basic.{Basic}
use Rattle.dl_base.specs.declared.concept.Basic.TheVariants as basic
use Rattle.dl_base.specs.declared.concept.Role.{Role}
use Rattle.dl_base.specs.declared.element.Elem.{Elem}
use Rattle.dl_base.specs.declared.element.Elem.TheVariants as elem
use Rattle.dl_base.specs.declared.element.Witness.{Witness}
use Rattle.dl_base.specs.declared.row.Row.{Row}
use Rattle.dl_base.specs.declared.row.Row.TheVariants as row
use Rattle.dl_base.proofs.RisingLemmas.{contains_cases, contains_first, contains_later}
use Rattle.role_graph.specs.Reached.{first, next}

inverse_twice : (r : Role) → inverse (inverse r) ≡ r
inverse_twice r = by r.inverse r.name
  where
    by : (b : Bool) (p : ℕ) → inverse (inverse (record { name = p; inverse = b })) ≡ record { name = p; inverse = b }
    by false p = refl
    by true p = refl

abbrev role_with : ℕ → Bool → Role
role_with p b = record { name = p; inverse = b }

same_role_or_not : (r s : Role) → (r ≡ s) ⊎ (r ≡ s → ⊥)
same_role_or_not r s = by r.inverse s.inverse (cases_eq r.name s.name)
  where
    by : (b c : Bool) → (r.name ≡ s.name) ⊎ (r.name ≢ s.name) → (role_with r.name b ≡ role_with s.name c) ⊎ (role_with r.name b ≡ role_with s.name c → ⊥)
    by false false (inl e) = inl (ap (λ (p : ℕ). role_with p false) e)
    by true true (inl e) = inl (ap (λ (p : ℕ). role_with p true) e)
    by false true (inl e) = inr (λ f. absurd (let g : false ≡ true = ap (λ (x : Role). x.inverse) f in cc))
    by true false (inl e) = inr (λ f. absurd (let g : true ≡ false = ap (λ (x : Role). x.inverse) f in cc))
    by b c (inr other) = inr (λ f. other (ap (λ (x : Role). x.name) f))

-- ---- whether a row gives a successor

-- the name of its concept or role, and whether it is of an inverse
abbrev name_in : Basic → ℕ
name_in (basic.Concept c) = c
name_in (basic.Exists r) = r.name

abbrev is_inverse : Basic → Bool
is_inverse (basic.Concept c) = false
is_inverse (basic.Exists r) = r.inverse

apart : (p q : ℕ) (b c : Bool) → b ≢ c → basic.Exists (record { name = p; inverse = b }) ≡ basic.Exists (record { name = q; inverse = c }) → ⊥
apart p q b c other e = other (ap is_inverse e)

false_not : false ≢ true
false_not e = cc

true_not : true ≢ false
true_not e = cc

module _ (n : ℕ) where
  -- a row by which the individual has another by the role
  abbrev Given : List Row → Bool → ℕ → Type 0
  Given rows inverse p = (m : ℕ) × Contains rows (numbered_row inverse p n m)

  given_holds : (rows : List Row) (inverse : Bool) (p : ℕ) → Given rows inverse p → HoldsBy rows n (basic.Exists (record { name = p; inverse = inverse }))
  given_holds rows false p (m, there) = (row.Role p n m, there, inl (refl, refl))
  given_holds rows true p (m, there) = (row.Role p m n, there, inr (refl, refl))

  gives_given : (rows : List Row) (inverse : Bool) (p : ℕ) (r : Row) → Contains rows r → GivesBasic r n (basic.Exists (record { name = p; inverse = inverse })) → Given rows inverse p
  gives_given rows inverse p (row.Concept c a) there gives = absurd (let e = gives.1 in cc)
  gives_given rows false p (row.Role q a d) there (inl gives) =
      let same : q ≡ p = sym (ap name_in gives.1) in
      let at : a ≡ n = gives.0 in
      let is : row.Role q a d ≡ row.Role p n d = cc in
      (d, subst (Contains rows) is there)
  gives_given rows true p (row.Role q a d) there (inl gives) = absurd (apart p q true false true_not gives.1)
  gives_given rows false p (row.Role q a d) there (inr gives) = absurd (apart p q false true false_not gives.1)
  gives_given rows true p (row.Role q a d) there (inr gives) =
      let same : q ≡ p = sym (ap name_in gives.1) in
      let at : d ≡ n = gives.0 in
      let is : row.Role q a d ≡ row.Role p a n = cc in
      (a, subst (Contains rows) is there)

  -- one row gives it or doesn't
  one_gives : (r : Row) (inverse : Bool) (p : ℕ) → GivesBasic r n (basic.Exists (record { name = p; inverse = inverse })) ⊎ (GivesBasic r n (basic.Exists (record { name = p; inverse = inverse })) → ⊥)
  one_gives (row.Concept c a) inverse p = inr (λ gives. absurd (let e = gives.1 in cc))
  one_gives (row.Role q a d) false p = by (cases_eq a n) (cases_eq p q)
    where
      by : (a ≡ n) ⊎ (a ≢ n) → (p ≡ q) ⊎ (p ≢ q) → GivesBasic (row.Role q a d) n (basic.Exists (record { name = p; inverse = false })) ⊎ (GivesBasic (row.Role q a d) n (basic.Exists (record { name = p; inverse = false })) → ⊥)
      by (inl e) (inl f) = inl (inl (e, ap (λ (k : ℕ). basic.Exists (record { name = k; inverse = false })) f))
      by (inl e) (inr other) = inr (λ gives. elim gives [ inl g ↦ other (ap name_in g.1) | inr g ↦ apart p q false true false_not g.1 ])
      by (inr other) f = inr (λ gives. elim gives [ inl g ↦ other g.0 | inr g ↦ apart p q false true false_not g.1 ])
  one_gives (row.Role q a d) true p = by (cases_eq d n) (cases_eq p q)
    where
      by : (d ≡ n) ⊎ (d ≢ n) → (p ≡ q) ⊎ (p ≢ q) → GivesBasic (row.Role q a d) n (basic.Exists (record { name = p; inverse = true })) ⊎ (GivesBasic (row.Role q a d) n (basic.Exists (record { name = p; inverse = true })) → ⊥)
      by (inl e) (inl f) = inl (inr (e, ap (λ (k : ℕ). basic.Exists (record { name = k; inverse = true })) f))
      by (inl e) (inr other) = inr (λ gives. elim gives [ inl g ↦ apart p q true false true_not g.1 | inr g ↦ other (ap name_in g.1) ])
      by (inr other) f = inr (λ gives. elim gives [ inl g ↦ apart p q true false true_not g.1 | inr g ↦ other g.0 ])

  some_gives : (rows : List Row) (inverse : Bool) (p : ℕ) → HoldsBy rows n (basic.Exists (record { name = p; inverse = inverse })) ⊎ (HoldsBy rows n (basic.Exists (record { name = p; inverse = inverse })) → ⊥)
  some_gives [] inverse p = inr (λ holds. absurd (omega (arith, holds.1.1)))
  some_gives (r ∷ rs) inverse p = by (one_gives r inverse p) (some_gives rs inverse p)
    where
      by : GivesBasic r n (basic.Exists (record { name = p; inverse = inverse })) ⊎ (GivesBasic r n (basic.Exists (record { name = p; inverse = inverse })) → ⊥) → HoldsBy rs n (basic.Exists (record { name = p; inverse = inverse })) ⊎ (HoldsBy rs n (basic.Exists (record { name = p; inverse = inverse })) → ⊥) → HoldsBy (r ∷ rs) n (basic.Exists (record { name = p; inverse = inverse })) ⊎ (HoldsBy (r ∷ rs) n (basic.Exists (record { name = p; inverse = inverse })) → ⊥)
      by (inl gives) rest = inl (r, contains_first r rs, gives)
      by (inr not) (inl holds) = inl (holds.0, contains_later r rs holds.0 holds.1, holds.2)
      by (inr not) (inr none) = inr (λ holds. elim (contains_cases r rs holds.0 holds.1) [
        | inl e ↦ not (subst (λ (q : Row). GivesBasic q n (basic.Exists (record { name = p; inverse = inverse }))) e holds.2)
        | inr d ↦ none (holds.0, d, holds.2)
      ])

-- ---- elements from which a role leads

module _ (o : Terminology) (rows : List Row) (generation : Role → ℕ) where
  -- who points to a role makes it live
  pub points_live : (r : Role) (e : Elem) → ElemPoints o rows generation r e → IsLiveRole o rows r
  points_live r (elem.Named n) points = first (n, points.0, points.1)
  points_live r (elem.Shared w) points = next points.0.live points.1

  -- to a live role someone points
  live_pointed : {r : Role} → IsLiveRole o rows r → (e : Elem) × ElemPoints o rows generation r e
  live_pointed {r} (first p) = (elem.Named p.0, (p.1, p.2))
  live_pointed {r} (next {s} before points) = (elem.Shared (witness_of generation s), (record { live = before; now = refl }, points))

  points_derived : (r : Role) (e : Elem) → ElemPoints o rows generation r e → IsDerivedElem o rows generation (basic.Exists r) e
  points_derived r (elem.Named n) points = (points.0, points.1.derived)
  points_derived r (elem.Shared w) points = (points.0, points.1.derived)

  row_derived : (r : Role) (n m : ℕ) → Contains rows (numbered_row r.inverse r.name n m) → IsDerivedElem o rows generation (basic.Exists r) (elem.Named n)
  row_derived r n m there =
      let holds : HoldsBy rows n (basic.Exists r) = given_holds n rows r.inverse r.name (m, there) in
      ((holds.0, holds.1, gives_named holds.0 n (basic.Exists r) holds.2), leaf holds)

  pub leads_derived : (r : Role) (e f : Elem) → LeadsBetween o rows generation r e f → IsDerivedElem o rows generation (basic.Exists r) e
  leads_derived r _ _ (by_row n m there) = row_derived r n m there
  leads_derived r _ _ (forth e points) = points_derived r e points
  leads_derived r _ _ (back f points) = (record { live = points_live (inverse r) f points; now = refl }, leaf (ap basic.Exists (sym (inverse_twice r))))

  named_leads : (r : Role) (n : ℕ) → IsRowNamed rows n → Derives o.inclusions (HoldsBy rows n) (basic.Exists r) → (f : Elem) × LeadsBetween o rows generation r (elem.Named n) f
  named_leads r n named d = elim (some_gives n rows r.inverse r.name) [
    | inl holds ↦ (let given = gives_given n rows r.inverse r.name holds.0 holds.1 holds.2 in (elem.Named given.0, by_row n given.0 given.1))
    | inr none ↦ (elem.Shared (witness_of generation r), forth (elem.Named n) (named, record { derived = d; no_row = none }))
  ]

  shared_leads : (r : Role) (w : Witness) → IsLiveWitness o rows generation w → DerivedBehind o w.role (basic.Exists r) → (f : Elem) × LeadsBetween o rows generation r (elem.Shared w) f
  shared_leads r w is d = elim (same_role_or_not r (inverse w.role)) [
    | inl same ↦
        let turned : inverse r ≡ w.role = ap inverse same ∙ inverse_twice w.role in
        let pointed = live_pointed (subst (IsLiveRole o rows) (sym turned) is.live) in
        let whole : witness_of generation (inverse r) ≡ w = λ j. record { role = turned j; generation = (ap generation turned ∙ sym is.now) j } in
        (pointed.0, subst (λ (v : Witness). LeadsBetween o rows generation r (elem.Shared v) pointed.0) whole (back pointed.0 pointed.1))
    | inr other ↦ (elem.Shared (witness_of generation r), forth (elem.Shared w) (is, record { derived = d; not_back = other }))
  ]

  pub derived_leads : (r : Role) (e : Elem) → IsDerivedElem o rows generation (basic.Exists r) e → (f : Elem) × LeadsBetween o rows generation r e f
  derived_leads r (elem.Named n) (named, d) = named_leads r n named d
  derived_leads r (elem.Shared w) (is, d) = shared_leads r w is d
