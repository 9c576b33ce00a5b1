-- What the kept lists say of rows.
use Rattle.std.proofs.Common.{◌≡◌, ◌≢◌, ℕ, zero, suc, ◌+◌, ◌⊎◌, ◌↔◌, inl, inr, Bool, true, false, List, [], ◌∷◌, ◌++◌, map, Contains, refl, sym, ◌∙◌, ap, subst, arith}
use Rattle.std.specs.Prelude.{slice_index_or}
use Rattle.std.proofs.lemmas.List.Elements.{Contains-append_left, Contains-append_right, Contains-append_cases}
use Rattle.dl_base.specs.Derivation.{inverse}
use Rattle.std.specs.declared.cmp.Ordering.TheVariants.{Greater}
use Rattle.dl_base.specs.Tables.{TableRow, ConceptRow, RoleRow, edge_row, elem_cmp}
use Rattle.dl_base.specs.declared.concept.Role.{Role}
use Rattle.dl_base.specs.declared.element.Elem.{Elem}
use Rattle.dl_base.specs.declared.element.Elem.TheVariants as elem
use Rattle.dl_base.proofs.PlaceLemmas.{map_contains, map_from}
use Rattle.completion.specs.EdgeLists.{edge_of}
use Rattle.completion.specs.Gathered.{role_by_place}
use Rattle.completion.specs.TableRows.{IsRowFrom, KeptRows, PointsHere, RoleLists, concept_rows, individual_row, elements_at, no_lists, one_way, pointing_rows, table_of, witness_at, witness_rows}
use Rattle.completion.specs.declared.edges.Edge.{Edge}
use Rattle.completion.specs.declared.rows.BothWays.{BothWays}

-- ---- concept rows

concept_there : (p c : ℕ) (lists : List (List Elem)) (e : Elem) → Contains (elements_at lists c) e → Contains (concept_rows p lists) (ConceptRow (p + c) e)
concept_there p c [] e there = absurd (omega (arith, there.1))
concept_there p zero (es ∷ rest) e there =
    let same : p + zero ≡ p = omega arith in
    Contains-append_left (map (ConceptRow p) es) (concept_rows (p + 1) rest) (ConceptRow (p + zero) e) (subst (λ (c : ℕ). Contains (map (ConceptRow p) es) (ConceptRow c e)) (sym same) (map_contains (ConceptRow p) es e there))
concept_there p (suc c) (es ∷ rest) e there =
    let same : (p + 1) + c ≡ p + suc c = omega arith in
    Contains-append_right (map (ConceptRow p) es) (concept_rows (p + 1) rest) (ConceptRow (p + suc c) e) (subst (λ (d : ℕ). Contains (concept_rows (p + 1) rest) (ConceptRow d e)) same (concept_there (p + 1) c rest e there))

concept_from : (p : ℕ) (lists : List (List Elem)) (row : TableRow) → Contains (concept_rows p lists) row → (c : ℕ) × (e : Elem) × (row ≡ ConceptRow (p + c) e) × Contains (elements_at lists c) e
concept_from p [] row there = absurd (omega (arith, there.1))
concept_from p (es ∷ rest) row there = elim (Contains-append_cases (map (ConceptRow p) es) (concept_rows (p + 1) rest) row there) [
  | inl here ↦
      let found = map_from (ConceptRow p) es row here in
      let same : p ≡ p + zero = omega arith in
      (zero, found.0, found.2 ∙ ap (λ (c : ℕ). ConceptRow c found.0) same, found.1)
  | inr later ↦
      let found = concept_from (p + 1) rest row later in
      let same : (p + 1) + found.0 ≡ p + suc found.0 = omega arith in
      (suc found.0, found.1, found.2 ∙ ap (λ (c : ℕ). ConceptRow c found.1) same, found.3)
]

-- ---- rows to witnesses

abbrev lists_in : List BothWays → ℕ → Bool → RoleLists
lists_in lists p b = one_way b (slice_index_or lists p (record { direct = no_lists; inverse = no_lists }))

-- the row by which e has the witness of the role
abbrev witness_row : Role → RoleLists → Elem → TableRow
witness_row r x e = edge_row r e (witness_at r x.generation)

pointing_there : (r : Role) (x : RoleLists) (e : Elem) → Contains x.pointing e → Contains (pointing_rows r x) (witness_row r x e)
pointing_there r x e there = map_contains (λ (f : Elem). witness_row r x f) x.pointing e there

name_there : (p : ℕ) (x : BothWays) (b : Bool) (e : Elem) → Contains (one_way b x).pointing e
    → Contains (pointing_rows (role_by_place p false) x.direct ++ pointing_rows (role_by_place p true) x.inverse) (witness_row (role_by_place p b) (one_way b x) e)
name_there p x false e there = Contains-append_left (pointing_rows (role_by_place p false) x.direct) (pointing_rows (role_by_place p true) x.inverse) _ (pointing_there (role_by_place p false) x.direct e there)
name_there p x true e there = Contains-append_right (pointing_rows (role_by_place p false) x.direct) (pointing_rows (role_by_place p true) x.inverse) _ (pointing_there (role_by_place p true) x.inverse e there)

none_pointing : (b : Bool) (e : Elem) → Contains (one_way b (record { direct = no_lists; inverse = no_lists })).pointing e → ⊥
none_pointing false e there = omega (arith, there.1)
none_pointing true e there = omega (arith, there.1)

witness_there : (p q : ℕ) (lists : List BothWays) (b : Bool) (e : Elem) → Contains (lists_in lists q b).pointing e → Contains (witness_rows p lists) (witness_row (role_by_place (p + q) b) (lists_in lists q b) e)
witness_there p q [] b e there = absurd (none_pointing b e there)
witness_there p zero (x ∷ rest) b e there =
    let same : p ≡ p + zero = omega arith in
    Contains-append_left (pointing_rows (role_by_place p false) x.direct ++ pointing_rows (role_by_place p true) x.inverse) (witness_rows (p + 1) rest) _
    (subst (λ (c : ℕ). Contains (pointing_rows (role_by_place p false) x.direct ++ pointing_rows (role_by_place p true) x.inverse) (witness_row (role_by_place c b) (one_way b x) e)) same (name_there p x b e there))
witness_there p (suc q) (x ∷ rest) b e there =
    let same : (p + 1) + q ≡ p + suc q = omega arith in
    Contains-append_right (pointing_rows (role_by_place p false) x.direct ++ pointing_rows (role_by_place p true) x.inverse) (witness_rows (p + 1) rest) _
    (subst (λ (c : ℕ). Contains (witness_rows (p + 1) rest) (witness_row (role_by_place c b) (lists_in rest q b) e)) same (witness_there (p + 1) q rest b e there))

-- it is a row to the witness of a role with this name
record IsWitnessRow (p : ℕ) (lists : List BothWays) (row : TableRow) : Type 0 where
  place : ℕ
  way : Bool
  from : Elem
  is : row ≡ witness_row (role_by_place (p + place) way) (lists_in lists place way) from
  there : Contains (lists_in lists place way).pointing from

witness_from : (p : ℕ) (lists : List BothWays) (row : TableRow) → Contains (witness_rows p lists) row → IsWitnessRow p lists row
witness_from p [] row there = absurd (omega (arith, there.1))
witness_from p (x ∷ rest) row there = elim (Contains-append_cases (pointing_rows (role_by_place p false) x.direct ++ pointing_rows (role_by_place p true) x.inverse) (witness_rows (p + 1) rest) row there) [
  | inl here ↦ elim (Contains-append_cases (pointing_rows (role_by_place p false) x.direct) (pointing_rows (role_by_place p true) x.inverse) row here) [
    | inl forth ↦ one false (map_from (λ (f : Elem). witness_row (role_by_place p false) x.direct f) x.direct.pointing row forth)
    | inr back ↦ one true (map_from (λ (f : Elem). witness_row (role_by_place p true) x.inverse f) x.inverse.pointing row back)
  ]
  | inr later ↦
      let found = witness_from (p + 1) rest row later in
      let same : (p + 1) + found.place ≡ p + suc found.place = omega arith in
      record {
        place = suc found.place;
        way = found.way;
        from = found.from;
        is = found.is ∙ ap (λ (c : ℕ). witness_row (role_by_place c found.way) (lists_in rest found.place found.way) found.from) same;
        there = found.there;
      }
]
  where
    one : (b : Bool) → (e : Elem) × Contains (one_way b x).pointing e × (row ≡ witness_row (role_by_place p b) (one_way b x) e) → IsWitnessRow p (x ∷ rest) row
    one b found = record {
      place = zero;
      way = b;
      from = found.0;
      is = (let same : p ≡ p + zero = omega arith in found.2 ∙ ap (λ (c : ℕ). witness_row (role_by_place c b) (one_way b x) found.0) same);
      there = found.1;
    }

-- ---- all rows

-- by a row among individuals, or one of them points to the other
abbrev pub IsKeptEdge : KeptRows → Role → Elem → Elem → Type 0
IsKeptEdge k r e f = IsRowFrom k r e f ⊎ (PointsHere k r e f ⊎ PointsHere k (inverse r) f e)

-- an individual that a row gives isn't above what points by the role
pub row_first : (k : KeptRows) (r : Role) (e f : Elem) → IsRowFrom k r e f → (g : Elem) → PointsHere k r e g ⊎ PointsHere k (inverse r) g e → elem_cmp f g ≢ Greater
row_first k r (elem.Named n) f row g (inl forth) = subst (λ (x : Elem). elem_cmp x g ≢ Greater) (sym row.1) (subst (λ (x : Elem). elem_cmp (elem.Named row.0) x ≢ Greater) (sym forth.1) (λ e. absurd cc))
row_first k r (elem.Named n) f row g (inr back) = absurd (let e = back.1 in cc)
row_first k r (elem.Shared w) f row g either = absurd row

concept_apart : (c p : ℕ) (e f g : Elem) → RoleRow p f g ≡ ConceptRow c e → ⊥
concept_apart c p e f g same = cc

role_apart : (c : ℕ) (e f g : Elem) (r : Role) → ConceptRow c e ≡ edge_row r f g → ⊥
role_apart c e f g r same = by r.inverse same
  where
    by : (b : Bool) → ConceptRow c e ≡ edge_row (record { name = r.name; inverse = b }) f g → ⊥
    by false h = cc
    by true h = cc

module _ (k : KeptRows) where
  abbrev among : List TableRow
  among = map individual_row k.edges

  rest_there : (row : TableRow) → Contains (among ++ witness_rows 0 k.roles) row → Contains (table_of k) row
  rest_there row c = Contains-append_right (concept_rows 0 k.concepts) (among ++ witness_rows 0 k.roles) row c

  pub concept_kept : (c : ℕ) (e : Elem) → Contains (table_of k) (ConceptRow c e) ↔ Contains (elements_at k.concepts c) e
  concept_kept c e = (into, out)
    where
      out : Contains (elements_at k.concepts c) e → Contains (table_of k) (ConceptRow c e)
      out there =
          let same : 0 + c ≡ c = omega arith in
          Contains-append_left (concept_rows 0 k.concepts) (among ++ witness_rows 0 k.roles) (ConceptRow c e) (subst (λ (d : ℕ). Contains (concept_rows 0 k.concepts) (ConceptRow d e)) same (concept_there 0 c k.concepts e there))

      into : Contains (table_of k) (ConceptRow c e) → Contains (elements_at k.concepts c) e
      into there = elim (Contains-append_cases (concept_rows 0 k.concepts) (among ++ witness_rows 0 k.roles) (ConceptRow c e) there) [
        | inl here ↦
            let found = concept_from 0 k.concepts (ConceptRow c e) here in
            let row : ConceptRow c e ≡ ConceptRow (0 + found.0) found.1 = found.2 in
            let plain : 0 + found.0 ≡ found.0 = omega arith in
            let at : found.0 ≡ c = cc in
            let is : found.1 ≡ e = cc in
            subst (λ (d : ℕ). Contains (elements_at k.concepts d) e) at (subst (Contains (elements_at k.concepts found.0)) is found.3)
        | inr rest ↦ elim (Contains-append_cases among (witness_rows 0 k.roles) (ConceptRow c e) rest) [
          | inl here ↦ (let found = map_from individual_row k.edges (ConceptRow c e) here in absurd (concept_apart c found.0.role e (elem.Named found.0.from) (elem.Named found.0.to) (sym found.2)))
          | inr here ↦ (let found = witness_from 0 k.roles (ConceptRow c e) here in absurd (role_apart c e found.from (witness_at (role_by_place (0 + found.place) found.way) (lists_in k.roles found.place found.way).generation) (role_by_place (0 + found.place) found.way) found.is))
        ]
      ]

  -- ---- of direct roles

  from_witness : (p q : ℕ) (b : Bool) (e f g : Elem) → p ≡ q → RoleRow q e f ≡ witness_row (role_by_place p b) (lists_in k.roles q b) g → Contains (lists_in k.roles q b).pointing g → PointsHere k (role_by_place q false) e f ⊎ PointsHere k (role_by_place q true) f e
  from_witness p q false e f g plain row there =
      let from : g ≡ e = cc in
      let to : f ≡ witness_at (role_by_place q false) (lists_in k.roles q false).generation = (let h : f ≡ witness_at (role_by_place p false) (lists_in k.roles q false).generation = cc in h ∙ ap (λ (n : ℕ). witness_at (role_by_place n false) (lists_in k.roles q false).generation) plain) in
      inl (subst (Contains (lists_in k.roles q false).pointing) from there, to)
  from_witness p q true e f g plain row there =
      let from : g ≡ f = cc in
      let to : e ≡ witness_at (role_by_place q true) (lists_in k.roles q true).generation = (let h : e ≡ witness_at (role_by_place p true) (lists_in k.roles q true).generation = cc in h ∙ ap (λ (n : ℕ). witness_at (role_by_place n true) (lists_in k.roles q true).generation) plain) in
      inr (subst (Contains (lists_in k.roles q true).pointing) from there, to)

  name_of : (b : Bool) (p q n : ℕ) (e f g h : Elem) → RoleRow q e f ≡ edge_row (record { name = p; inverse = b }) g h → q ≡ p
  name_of false p q n e f g h same = cc
  name_of true p q n e f g h same = cc

  by_witness : (q : ℕ) (e f : Elem) → Contains (witness_rows 0 k.roles) (RoleRow q e f) → PointsHere k (role_by_place q false) e f ⊎ PointsHere k (role_by_place q true) f e
  by_witness q e f here =
      let found = witness_from 0 k.roles (RoleRow q e f) here in
      let at : q ≡ 0 + found.place = name_of found.way (0 + found.place) q 0 e f found.from (witness_at (role_by_place (0 + found.place) found.way) (lists_in k.roles found.place found.way).generation) found.is in
      let place : found.place ≡ q = omega (arith, at) in
      from_witness (0 + found.place) q found.way e f found.from (sym at)
      (subst (λ (n : ℕ). RoleRow q e f ≡ witness_row (role_by_place (0 + found.place) found.way) (lists_in k.roles n found.way) found.from) place found.is)
      (subst (λ (n : ℕ). Contains (lists_in k.roles n found.way).pointing found.from) place found.there)

  by_individuals : (q : ℕ) (e f : Elem) → Contains among (RoleRow q e f) → IsRowFrom k (role_by_place q false) e f
  by_individuals q e f here =
      let found = map_from individual_row k.edges (RoleRow q e f) here in
      let x : Edge = found.0 in
      let row : RoleRow q e f ≡ RoleRow x.role (elem.Named x.from) (elem.Named x.to) = found.2 in
      let role : x.role ≡ q = cc in
      let from : elem.Named x.from ≡ e = cc in
      let to : f ≡ elem.Named x.to = cc in
      let is : x ≡ record { role = q; from = x.from; to = x.to } = λ j. record { role = role j; from = x.from; to = x.to } in
      subst (λ (g : Elem). IsRowFrom k (role_by_place q false) g f) from (x.to, to, subst (Contains k.edges) is found.1)

  individuals_there : (q : ℕ) (e f : Elem) → IsRowFrom k (role_by_place q false) e f → Contains (table_of k) (RoleRow q e f)
  individuals_there q (elem.Named n) f there =
      let row = map_contains individual_row k.edges (edge_of false q n there.0) there.2 in
      rest_there (RoleRow q (elem.Named n) f) (Contains-append_left among (witness_rows 0 k.roles) (RoleRow q (elem.Named n) f) (subst (λ (g : Elem). Contains among (RoleRow q (elem.Named n) g)) (sym there.1) row))
  individuals_there q (elem.Shared w) f there = absurd there

  points_there : (q : ℕ) (b : Bool) (e f : Elem) → PointsHere k (role_by_place q b) e f → Contains (table_of k) (edge_row (role_by_place q b) e f)
  points_there q b e f there =
      let same : 0 + q ≡ q = omega arith in
      let row : Contains (witness_rows 0 k.roles) (witness_row (role_by_place q b) (lists_in k.roles q b) e) = subst (λ (n : ℕ). Contains (witness_rows 0 k.roles) (witness_row (role_by_place n b) (lists_in k.roles q b) e)) same (witness_there 0 q k.roles b e there.0) in
      rest_there (edge_row (role_by_place q b) e f) (Contains-append_right among (witness_rows 0 k.roles) (edge_row (role_by_place q b) e f) (subst (λ (g : Elem). Contains (witness_rows 0 k.roles) (edge_row (role_by_place q b) e g)) (sym there.1) row))

  direct_kept : (q : ℕ) (e f : Elem) → Contains (table_of k) (RoleRow q e f) → IsKeptEdge k (role_by_place q false) e f
  direct_kept q e f there = elim (Contains-append_cases (concept_rows 0 k.concepts) (among ++ witness_rows 0 k.roles) (RoleRow q e f) there) [
    | inl here ↦ (let found = concept_from 0 k.concepts (RoleRow q e f) here in absurd (concept_apart (0 + found.0) q found.1 e f found.2))
    | inr rest ↦ elim (Contains-append_cases among (witness_rows 0 k.roles) (RoleRow q e f) rest) [
      | inl here ↦ inl (by_individuals q e f here)
      | inr here ↦ elim (by_witness q e f here) [ inl forth ↦ inr (inl forth) | inr back ↦ inr (inr back) ]
    ]
  ]

  direct_there : (q : ℕ) (e f : Elem) → IsKeptEdge k (role_by_place q false) e f → Contains (table_of k) (RoleRow q e f)
  direct_there q e f (inl row) = individuals_there q e f row
  direct_there q e f (inr (inl forth)) = points_there q false e f forth
  direct_there q e f (inr (inr back)) = points_there q true f e back

  -- ---- of all roles

  -- read the other way
  row_turned : (q : ℕ) (e f : Elem) → IsRowFrom k (role_by_place q false) e f → IsRowFrom k (role_by_place q true) f e
  row_turned q (elem.Named n) f there = subst (λ (g : Elem). IsRowFrom k (role_by_place q true) g (elem.Named n)) (sym there.1) (n, refl, there.2)
  row_turned q (elem.Shared w) f there = absurd there

  row_back : (q : ℕ) (e f : Elem) → IsRowFrom k (role_by_place q true) f e → IsRowFrom k (role_by_place q false) e f
  row_back q e (elem.Named m) there = subst (λ (g : Elem). IsRowFrom k (role_by_place q false) g (elem.Named m)) (sym there.1) (m, refl, there.2)
  row_back q e (elem.Shared w) there = absurd there

  turned_kept : (q : ℕ) (e f : Elem) → IsKeptEdge k (role_by_place q false) f e → IsKeptEdge k (role_by_place q true) e f
  turned_kept q e f (inl row) = inl (row_turned q f e row)
  turned_kept q e f (inr (inl forth)) = inr (inr forth)
  turned_kept q e f (inr (inr back)) = inr (inl back)

  kept_turned : (q : ℕ) (e f : Elem) → IsKeptEdge k (role_by_place q true) e f → IsKeptEdge k (role_by_place q false) f e
  kept_turned q e f (inl row) = inl (row_back q f e row)
  kept_turned q e f (inr (inl back)) = inr (inr back)
  kept_turned q e f (inr (inr forth)) = inr (inl forth)

  kept_by : (q : ℕ) (b : Bool) (e f : Elem) → Contains (table_of k) (edge_row (role_by_place q b) e f) ↔ IsKeptEdge k (role_by_place q b) e f
  kept_by q false e f = (direct_kept q e f, direct_there q e f)
  kept_by q true e f = (λ c. turned_kept q e f (direct_kept q f e c), λ kept. direct_there q f e (kept_turned q e f kept))

  pub edge_kept : (r : Role) (e f : Elem) → Contains (table_of k) (edge_row r e f) ↔ IsKeptEdge k r e f
  edge_kept r e f = kept_by r.name r.inverse e f
