-- Whether a row leads from an individual by a role can be decided.
use Rattle.std.proofs.Common.{◌≡◌, ℕ, ◌⊎◌, inl, inr, Bool, true, false, List, [], ◌∷◌, Option, Some, None, slice_get, Contains, refl, sym, ◌∙◌, ap, subst, arith}
use Rattle.std.specs.declared.cmp.Ordering.{Ordering}
use Rattle.std.specs.declared.cmp.Ordering.TheVariants.{Less, Equal, Greater}
use Rattle.std.proofs.lemmas.Cmp.{tied_itself}
use Rattle.dl_base.specs.Ontology.{Terminology}
use Rattle.dl_base.specs.Rows.{row_of, row_cmp, HasRow}
use Rattle.dl_base.specs.declared.concept.Role.{Role}
use Rattle.dl_base.specs.declared.row.NamedRow.{NamedRow}
use Rattle.dl_base.specs.declared.row.NamedRow.TheVariants as row
use Rattle.dl_base.proofs.RisingLemmas.{contains_cases, contains_first, contains_later}
use Rattle.dl_base.proofs.RowLemmas.{row_total, row_same}

-- the individual at the end of a row that is read forward, or backward
abbrev end_of : Bool → NamedRow → List ℕ
end_of inverse (row.Concept c a) = []
end_of true (row.Role p a b) = a
end_of false (row.Role p a b) = b

end_is : (name : List ℕ) (inverse : Bool) (a b : List ℕ) → end_of inverse (row_of name inverse a b) ≡ b
end_is name true a b = refl
end_is name false a b = refl

-- P holds of some name, or of none
abbrev pub SomeOrNone : (List ℕ → Type 0) → Type 0
SomeOrNone P = ((b : List ℕ) × P b) ⊎ ((b : List ℕ) → P b → ⊥)

-- the rows lead from a to something by the name, or to nothing
leads : (name : List ℕ) (inverse : Bool) (a : List ℕ) (rows : List NamedRow) → SomeOrNone (λ b. Contains rows (row_of name inverse a b))
leads name inverse a [] = inr (λ b c. omega arith)
leads name inverse a (r ∷ rows) = by (row_cmp (row_of name inverse a (end_of inverse r)) r) refl (leads name inverse a rows)
  where
    equal : (b : List ℕ) → row_of name inverse a b ≡ r → row_cmp (row_of name inverse a (end_of inverse r)) r ≡ Equal
    equal b e =
        let end : end_of inverse r ≡ b = ap (end_of inverse) (sym e) ∙ end_is name inverse a b in
        let is : row_of name inverse a (end_of inverse r) ≡ r = ap (row_of name inverse a) end ∙ e in
        subst (λ (x : NamedRow). row_cmp x r ≡ Equal) (sym is) (tied_itself row_total r)

    later : (row_cmp (row_of name inverse a (end_of inverse r)) r ≡ Equal → ⊥)
        → SomeOrNone (λ b. Contains rows (row_of name inverse a b)) → SomeOrNone (λ b. Contains (r ∷ rows) (row_of name inverse a b))
    later not (inl found) = inl (found.0, contains_later r rows _ found.1)
    later not (inr none) = inr (λ b c. elim (contains_cases r rows (row_of name inverse a b) c) [ inl is ↦ not (equal b is) | inr d ↦ none b d ])

    by : (d : Ordering) → row_cmp (row_of name inverse a (end_of inverse r)) r ≡ d
        → SomeOrNone (λ b. Contains rows (row_of name inverse a b)) → SomeOrNone (λ b. Contains (r ∷ rows) (row_of name inverse a b))
    by Equal e rest = inl (end_of inverse r, subst (λ (x : NamedRow). Contains (r ∷ rows) x) (sym (row_same _ r e)) (contains_first r rows))
    by Less e rest = later (λ f. let g : Less ≡ Equal = sym e ∙ f in cc) rest
    by Greater e rest = later (λ f. let g : Greater ≡ Equal = sym e ∙ f in cc) rest

-- a has something by the role in a row, or nothing
pub has_some : (o : Terminology) (rows : List NamedRow) (r : Role) (a : List ℕ) → SomeOrNone (HasRow o rows r a)
has_some o rows r a = by (slice_get o.roles r.name) refl
  where
    with : (name : List ℕ) → slice_get o.roles r.name ≡ Some name → SomeOrNone (λ b. Contains rows (row_of name r.inverse a b)) → SomeOrNone (HasRow o rows r a)
    with name named (inl found) = inl (found.0, record { name = name; named = named; there = found.1 })
    with name named (inr none) = inr (λ b h.
        let same : h.name ≡ name = let e : Some h.name ≡ Some name = sym h.named ∙ named in cc in
        none b (subst (λ (n : List ℕ). Contains rows (row_of n r.inverse a b)) same h.there))

    by : (found : Option (List ℕ)) → slice_get o.roles r.name ≡ found → SomeOrNone (HasRow o rows r a)
    by None e = inr (λ b h. let f : None ≡ Some h.name = sym e ∙ h.named in cc)
    by (Some name) e = with name e (leads name r.inverse a rows)
