-- What is derived of an ontology is of the ontology, and a role that it hasn't got points to none.
use Rattle.std.proofs.Common.{◌≡◌, ℕ, ◌<◌, ◌≤◌, List, [], ◌∷◌, length, Contains, sym, ap, subst, arith}
use Rattle.std.specs.List.{AllByRecursion}
use Rattle.dl_base.specs.Completion.{RolePoints}
use Rattle.dl_base.specs.Derivation.{Derives, HeldBehind, Violates, inverse}
use Rattle.dl_base.specs.Ontology.{Terminology, IsTerminology, IsPlaced, IsWithin}
use Rattle.dl_base.specs.Paths.{ClashesAfter}
use Rattle.dl_base.specs.declared.concept.Basic.{Basic}
use Rattle.dl_base.specs.declared.concept.Basic.TheVariants as basic
use Rattle.dl_base.specs.declared.concept.Inclusion.{Inclusion}
use Rattle.dl_base.specs.declared.concept.Role.{Role}
use Rattle.dl_base.proofs.DerivationLemmas.{least, least-all, all-by}
use Rattle.dl_base.proofs.OntologyLemmas.{derived_placed}
use Rattle.dl_base.proofs.PlaceLemmas.{member_at}
use Rattle.dl_base.proofs.RisingLemmas.{all_contains}
use Rattle.dl_base.proofs.RoleLemmas.{same_role}

module _ (o : Terminology) (within : IsTerminology o) where
  fits : (i : Inclusion) → Contains o.inclusions i → IsWithin (length o.concepts) (length o.roles) i
  fits i there = all_contains (IsWithin (length o.concepts) (length o.roles)) o.inclusions i (all-by (IsWithin (length o.concepts) (length o.roles)) o.inclusions within.within) there

  -- a role of the ontology points only to roles of the ontology
  pub point_inside : (s r : Role) → s.name < length o.roles → RolePoints o s r → r.name < length o.roles
  point_inside s r placed points =
      derived_placed o within (HeldBehind s) (λ b is. subst (IsPlaced (length o.concepts) (length o.roles)) (sym is) placed) (basic.Exists r) points.derived

  module _ (s : Role) (outside : length o.roles ≤ s.name) where
    -- no inclusion has a member that is held behind a role that isn't the ontology's
    no_body : (bs : List Basic) → 1 ≤ length bs → AllByRecursion (IsPlaced (length o.concepts) (length o.roles)) bs → AllByRecursion (HeldBehind s) bs → ⊥
    no_body [] some placed held = absurd (omega arith)
    no_body (b ∷ bs) some placed held = absurd (let below : s.name < length o.roles = subst (IsPlaced (length o.concepts) (length o.roles)) held.0 placed.0 in omega arith)

    no_inclusion : (i : Inclusion) → Contains o.inclusions i → AllByRecursion (HeldBehind s) i.body → ⊥
    no_inclusion i there held = no_body i.body (fits i there).least (all-by (IsPlaced (length o.concepts) (length o.roles)) i.body (fits i there).body) held

    -- so nothing further is derived there
    only_held : (b : Basic) → Derives o.inclusions (HeldBehind s) b → HeldBehind s b
    only_held b d = least o.inclusions (HeldBehind s) (HeldBehind s) (λ i c there heads held. absurd (no_inclusion i there held)) (λ c h. h) d

    pub no_point_outside : (r : Role) → RolePoints o s r → ⊥
    no_point_outside r points = points.not_back (same_role r (inverse s) (only_held (basic.Exists r) points.derived))

    none_violated : (k : ℕ) → Violates o.inclusions (HeldBehind s) k → ⊥
    none_violated k v =
        no_inclusion v.inclusion (member_at o.inclusions v.before v.inclusion v.at)
        (least-all o.inclusions (HeldBehind s) (HeldBehind s) (λ i c there heads held. absurd (no_inclusion i there held)) (λ c h. h) v.body)

  -- behind a role that the ontology hasn't got nothing clashes
  pub no_clash_outside : (rest : List Role) (r : Role) (k : ℕ) → length o.roles ≤ r.name → ClashesAfter o.inclusions (HeldBehind r) rest k → ⊥
  no_clash_outside [] r k outside clashes = none_violated r outside k clashes.violates
  no_clash_outside (s ∷ rest) r k outside clashes =
      let back : s ≡ inverse r = same_role s (inverse r) (only_held r outside (basic.Exists s) clashes.follows.0) in
      let name : s.name ≡ r.name = ap (λ (t : Role). t.name) back in
      no_clash_outside rest s k (omega arith) (record { follows = clashes.follows.1; violates = clashes.violates })
