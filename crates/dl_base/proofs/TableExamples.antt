-- Small completed tables.
use Rattle.std.proofs.Common.{◌≡◌, ℕ, List, [], ◌∷◌, Contains, refl, sym, ◌∙◌, ap, subst, codes, arith, false, inl, inr, Some, true≢false}
use Rattle.dl_base.specs.Laws.{successors, WitnessStands, NoWitnessBeside, predecessors, InverseWitnessLeads, implies, direct_at, inverted_at, PointsToItself}
use Rattle.dl_base.specs.Derivation.{leaf, node, none, each}
use Rattle.dl_base.specs.Rows.{HasRow}
use Rattle.dl_base.specs.Completion.{Individual, WitnessOf, Node, IndividualPoints, RoleLeads, Represents}
use Rattle.dl_base.specs.declared.concept.Role.{Role}
use Rattle.dl_base.specs.declared.concept.Basic.TheVariants as basic
use Rattle.dl_base.specs.declared.concept.Head.TheVariants as head
use Rattle.dl_base.specs.declared.element.Elem.TheVariants as elem
use Rattle.dl_base.specs.declared.row.NamedRow.{NamedRow}
use Rattle.dl_base.specs.declared.row.NamedRow.TheVariants as row
use Rattle.dl_base.proofs.Examples.{only_item, first_item}

r : Role
r = record { name = 0; inverse = false }

alone : List NamedRow
alone = row.Concept (codes "A") (codes "a") ∷ []

no_role : (p : List ℕ) (a b : List ℕ) → Contains alone (row.Role p a b) → ⊥
unfolding alone
no_role p a b there = let e = only_item (row.Concept (codes "A") (codes "a")) (row.Role p a b) there in cc

points : IndividualPoints successors alone (codes "a") r
unfolding alone r
points = record {
  individual = (row.Concept (codes "A") (codes "a"), first_item _ [], refl);
  derived = node (record { body = basic.Concept 0 ∷ []; head = head.Basic (basic.Exists (record { name = 0; inverse = false })) }) (first_item _ []) refl
      (each (leaf (record { name = codes "A"; named = refl; there = first_item _ [] })) none);
  no_row = λ b row. no_role row.name (codes "a") b row.there;
}

pub witness_stands : WitnessStands
unfolding r alone
witness_stands = record {
  from = Individual (codes "a");
  to = WitnessOf r;
  from_is = refl;
  to_is = (refl, refl);
  leads = inr (inl (refl, points));
}

beside : List NamedRow
beside = row.Concept (codes "A") (codes "a") ∷ row.Role (codes "r") (codes "a") (codes "b") ∷ []

ab : HasRow successors beside r (codes "a") (codes "b")
unfolding beside r
ab = record { name = codes "r"; named = refl; there = (1, omega arith, refl) }

no_point : (a : List ℕ) → codes "a" ≡ a → IndividualPoints successors beside a r → ⊥
no_point a same points = subst (λ (n : List ℕ). IndividualPoints successors beside n r → ⊥) same (λ p. p.no_row (codes "b") ab) points

no_leading : (x y : Node) → Represents (codes "a" ∷ codes "b" ∷ []) (λ r. 1) (elem.Named 0) x → Represents (codes "a" ∷ codes "b" ∷ []) (λ r. 1) (elem.Shared (record { role = r; generation = 1 })) y
    → RoleLeads successors beside 0 x y → ⊥
unfolding r beside
no_leading (Individual a) (WitnessOf s) f t (inl base) = cc
no_leading (Individual a) (WitnessOf s) f t (inr (inl found)) = no_point a (some_same f) found.1
  where
    some_same : {x y : List ℕ} → Some x ≡ Some y → x ≡ y
    some_same e = cc
no_leading (Individual a) (WitnessOf s) f t (inr (inr back)) = let e = back.0 in cc
no_leading (Individual a) (Individual b) f t leads = t
no_leading (WitnessOf s) y f t leads = f

pub no_witness_beside : NoWitnessBeside
unfolding beside r
no_witness_beside row = no_leading row.from row.to row.from_is row.to_is row.leads

-- ---- the witness of an inverse role

points_back : IndividualPoints predecessors alone (codes "a") (inverted_at 0)
unfolding alone
points_back = record {
  individual = (row.Concept (codes "A") (codes "a"), first_item _ [], refl);
  derived = node (implies (basic.Concept 0) (head.Basic (basic.Exists (inverted_at 0)))) (first_item _ []) refl
      (each (leaf (record { name = codes "A"; named = refl; there = first_item _ [] })) none);
  no_row = λ b row. no_role row.name b (codes "a") row.there;
}

not_to_inverse : (x y : Node) → Represents (codes "a" ∷ []) (λ r. 1) (elem.Named 0) x → Represents (codes "a" ∷ []) (λ r. 1) (elem.Shared (record { role = inverted_at 0; generation = 1 })) y
    → RoleLeads predecessors alone 0 x y → ⊥
not_to_inverse (Individual a) (WitnessOf s) f t (inl base) = let e = base.to_is in cc
not_to_inverse (Individual a) (WitnessOf s) f t (inr (inl found)) = let e = t.0 in let g = found.0 in other s e g
  where
    other : (s : Role) → inverted_at 0 ≡ s → WitnessOf s ≡ WitnessOf (direct_at 0) → ⊥
    other s e g = true≢false (ap (λ (r : Role). r.inverse) (e ∙ same s (direct_at 0) g))
      where
        same : (s r : Role) → WitnessOf s ≡ WitnessOf r → s ≡ r
        same s r h = cc
not_to_inverse (Individual a) (WitnessOf s) f t (inr (inr back)) = let e = back.0 in cc
not_to_inverse (Individual a) (Individual b) f t leads = t
not_to_inverse (WitnessOf s) y f t leads = f

pub inverse_witness_leads : InverseWitnessLeads
unfolding alone
inverse_witness_leads = (
  record { from = WitnessOf (inverted_at 0); to = Individual (codes "a"); from_is = (refl, refl); to_is = refl; leads = inr (inr (refl, points_back)) },
  λ row. not_to_inverse row.from row.to row.from_is row.to_is row.leads,
)

pub points_to_itself : PointsToItself
points_to_itself = record {
  derived = node (implies (basic.Exists (inverted_at 0)) (head.Basic (basic.Exists (direct_at 0)))) (first_item _ []) refl (each (leaf refl) none);
  not_back = λ e. true≢false (sym (ap (λ (r : Role). r.inverse) e));
}
