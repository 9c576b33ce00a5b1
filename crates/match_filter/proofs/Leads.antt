-- What the rows of a match say of the parents and children among its terms.
use Rattle.std.proofs.Common.{◌≡◌, ℕ, ◌⊎◌, inl, inr, Bool, true, false, List, Contains, refl, sym, subst}
use Rattle.dl_base.specs.Ontology.{Terminology}
use Rattle.dl_base.specs.Derivation.{inverse}
use Rattle.dl_base.specs.Rows.{HasRow}
use Rattle.dl_base.specs.Tables.{TableRow, RoleRow, edge_row}
use Rattle.dl_base.specs.Completion.{Node, Individual, WitnessOf, NodePoints, RoleLeads, Represents, AreCompleted, CompletesRole}
use Rattle.dl_base.specs.declared.concept.Role.{Role}
use Rattle.dl_base.specs.declared.element.Elem.{Elem}
use Rattle.dl_base.specs.declared.row.NamedRow.{NamedRow}

-- x is an individual that has the individual y by the role in a row
pub record IsRoleRow (o : Terminology) (rows : List NamedRow) (r : Role) (x y : Node) : Type 0 where
  pub from : List ℕ
  pub to : List ℕ
  pub from_is : x ≡ Individual from
  pub to_is : y ≡ Individual to
  pub row : HasRow o rows r from to

-- any role leads from x to y: by a row, or since x points to the witness y, or y by the inverse to the witness x
abbrev pub Leads : Terminology → List NamedRow → Role → Node → Node → Type 0
Leads o rows r x y = IsRoleRow o rows r x y
    ⊎ ((y ≡ WitnessOf r) × NodePoints o rows x r)
    ⊎ ((x ≡ WitnessOf (inverse r)) × NodePoints o rows y (inverse r))

-- the images are nodes between which the role leads
pub record LeadsAt (o : Terminology) (rows : List NamedRow) (names : List (List ℕ)) (generation : Role → ℕ) (r : Role) (e f : Elem) : Type 0 where
  pub from : Node
  pub to : Node
  pub from_is : Represents names generation e from
  pub to_is : Represents names generation f to
  pub leads : Leads o rows r from to

module _ (o : Terminology) (rows : List NamedRow) where
  leads_direct : (p : ℕ) (x y : Node) → RoleLeads o rows p x y → Leads o rows (record { name = p; inverse = false }) x y
  leads_direct p x y (inl base) = inl (record { from = base.from; to = base.to; from_is = base.from_is; to_is = base.to_is; row = base.row })
  leads_direct p x y (inr (inl found)) = inr (inl found)
  leads_direct p x y (inr (inr back)) = inr (inr back)

  leads_back : (p : ℕ) (x y : Node) → RoleLeads o rows p y x → Leads o rows (record { name = p; inverse = true }) x y
  leads_back p x y (inl base) =
      inl (record {
        from = base.to;
        to = base.from;
        from_is = base.to_is;
        to_is = base.from_is;
        row = record { name = base.row.name; named = base.row.named; there = base.row.there };
      })
  leads_back p x y (inr (inl found)) = inr (inr found)
  leads_back p x y (inr (inr back)) = inr (inl back)

module _ (o : Terminology) (rows : List NamedRow) (names : List (List ℕ)) (generation : Role → ℕ) (table : List TableRow) (completed : AreCompleted o rows names generation table) where
  pub edge_leads : (r : Role) (e f : Elem) → Contains table (edge_row r e f) → LeadsAt o rows names generation r e f
  edge_leads r e f = by r.inverse refl
    where
      by : (b : Bool) → r.inverse ≡ b → Contains table (edge_row r e f) → LeadsAt o rows names generation r e f
      by false direct there =
          let row : Contains table (RoleRow r.name e f) = rw direct at there in
          let completes : CompletesRole o rows names generation r.name e f = (completed.each (RoleRow r.name e f)).0 row in
          let is : (record { name = r.name; inverse = false }) ≡ r = λ i. record { name = r.name; inverse = sym direct i } in
          record {
            from = completes.from;
            to = completes.to;
            from_is = completes.from_is;
            to_is = completes.to_is;
            leads = subst (λ (s : Role). Leads o rows s completes.from completes.to) is (leads_direct o rows r.name completes.from completes.to completes.leads);
          }
      by true back there =
          let row : Contains table (RoleRow r.name f e) = rw back at there in
          let completes : CompletesRole o rows names generation r.name f e = (completed.each (RoleRow r.name f e)).0 row in
          let is : (record { name = r.name; inverse = true }) ≡ r = λ i. record { name = r.name; inverse = sym back i } in
          record {
            from = completes.to;
            to = completes.from;
            from_is = completes.to_is;
            to_is = completes.from_is;
            leads = subst (λ (s : Role). Leads o rows s completes.to completes.from) is (leads_back o rows r.name completes.to completes.from completes.leads);
          }
