-- The first clash that a graph keeps of a role.
use Rattle.std.proofs.Common.{◌≡◌, ℕ, ◌*◌, ◌<◌, ◌≤◌, inl, inr, List, length, get_or, slice_get, Option, Some, None, MatchOption, Bor, refl, sym, ◌∙◌, ap, subst, arith}
use Rattle.std.specs.Option.{option_copied}
use Rattle.std.proofs.lemmas.Bool.{cases_lt}
use Rattle.std.proofs.lemmas.Option.{slice_get_read}
use Rattle.dl_base.specs.Ontology.{Terminology}
use Rattle.dl_base.specs.Sets.{role_place}
use Rattle.dl_base.specs.declared.concept.Role.{Role}
use Rattle.role_graph.specs.FirstClashes.{IsFirstFrom}
use Rattle.role_graph.specs.Graph.{Graph, IsGraphOf, HasNode}
use Rattle.role_graph.specs.declared.clash.RoleClash.{RoleClash}
use Rattle.role_graph.proofs.LevelLemmas.{place_below}
use Rattle.role_graph.proofs.OutsideLemmas.{no_clash_outside}

module _ (o : Terminology) (g : Graph) (is : IsGraphOf o g) where
  -- a role that the graph hasn't got leads to none
  pub no_clash : (r : Role) → (HasNode g r → ⊥) → IsFirstFrom o r None
  no_clash r no_node d from = no_clash_outside o is.within from.rest r d.inclusion past from.clashes
    where
      past : length o.roles ≤ r.name
      past = elim (cases_lt r.name (length o.roles)) [
        | inl below ↦ absurd (no_node (let each : length g.closed ≡ length o.roles = is.closures.each in omega arith))
        | inr outside ↦ outside
      ]

  -- what is kept at the role's place is its first clash
  pub kept_first : (clashes : List (Option RoleClash)) (r : Role) (place : ℕ) (x : Option RoleClash) → clashes ≡ g.clashes → HasNode g r → place ≡ role_place r → x ≡ get_or clashes place x → IsFirstFrom o r x
  kept_first clashes r place x same node at_place at =
      let many : length clashes ≡ 2 * length o.roles = ap length same ∙ is.first.each in
      let each : length g.closed ≡ length o.roles = is.closures.each in
      let placed : r.name < length o.roles = omega arith in
      let below : place < length clashes = (let b = place_below (length o.roles) r placed in omega arith) in
      let there : slice_get clashes place ≡ Some x = slice_get_read clashes (length clashes) place x refl below at in
      is.first.first r x (ap (slice_get g.clashes) (sym at_place) ∙ ap (λ (cs : List (Option RoleClash)). slice_get cs place) (sym same) ∙ there)

-- the same of a reference to it
pub first_by_ref : (o : Terminology) (r : Role) (ref : Option (Bor RoleClash)) (x : Option RoleClash) → option_copied ref ≡ x → IsFirstFrom o r x
    → MatchOption ref (IsFirstFrom o r None) (λ c. IsFirstFrom o r (Some c.now))
first_by_ref o r None x same first = subst (IsFirstFrom o r) (sym same) first
first_by_ref o r (Some c) x same first = subst (IsFirstFrom o r) (sym same) first
