-- The first clash after what is held: the least inclusion that is violated at once, or the first clash from a derived role.
use Rattle.std.proofs.Common.{◌≡◌, ◌≢◌, ℕ, ◌+◌, ◌*◌, ◌<◌, ◌≤◌, ◌⊎◌, inl, inr, List, [], ◌∷◌, length, All, Option, Some, None, MatchOption, Bor, refl, sym, ◌∙◌, ap, subst, arith}
use Rattle.std.specs.List.{AllByRecursion}
use Rattle.std.specs.Option.{option_copied}
use Rattle.std.specs.Cmp.{IsTotalOrder}
use Rattle.std.specs.Cmp.Lexicographic.{slice_cmp}
use Rattle.std.specs.declared.cmp.Ordering.{Ordering}
use Rattle.std.specs.declared.cmp.Ordering.TheVariants.{Less, Equal, Greater}
use Rattle.std.specs.Ordering.{nat_cmp, ordering_then}
use Rattle.std.proofs.lemmas.Bool.{cases_eq}
use Rattle.std.proofs.lemmas.Cmp.{nat_cmp_total, lists_total, on_total, then_total}
use Rattle.std.proofs.lemmas.Option.{slice_get_within}
use Rattle.dl_base.specs.Clashes.{role_cmp}
use Rattle.dl_base.specs.Ontology.{Terminology, IsTerminology, IsPlaced}
use Rattle.dl_base.specs.Paths.{MayFollow, ClashesAfter}
use Rattle.dl_base.specs.Derivation.{HeldBehind}
use Rattle.dl_base.specs.Rows.{Held}
use Rattle.dl_base.specs.Sets.{HasBasic, role_place}
use Rattle.dl_base.specs.declared.concept.Basic.{Basic}
use Rattle.dl_base.specs.declared.concept.Basic.TheVariants as basic
use Rattle.dl_base.specs.declared.concept.Role.{Role}
use Rattle.dl_base.specs.declared.row.NamedRow.{NamedRow}
use Rattle.dl_base.proofs.DerivationLemmas.{all-of}
use Rattle.dl_base.proofs.OntologyLemmas.{derived_placed}
use Rattle.dl_base.proofs.PathLemmas.{derived_role}
use Rattle.dl_base.proofs.ClashLemmas.{role_total}
use Rattle.role_graph.proofs.OrderLemmas.{before_both, turned_round}
use Rattle.dl_base.proofs.SetLemmas.{role_place-same}
use Rattle.horn_closure.specs.Closure.{ClosedSet, IsClosure, IsLeastViolated}
use Rattle.role_graph.specs.declared.clash.RoleClash.{RoleClash}
use Rattle.role_graph.specs.FirstClashes.{IsClashFrom, IsFirstFrom, clash_cmp}
use Rattle.role_graph.proofs.ClashLemmas.{shorter_first, nat_not_after}
use Rattle.role_graph.proofs.LevelLemmas.{place_below, name_below}
use Rattle.clash_report.specs.After.{IsFirstAfter, IsClashBehind, IsLeastBehind, IsLesserClash}

-- clashes are ordered
pub clash_total : (o : Terminology) → IsTotalOrder (clash_cmp o)
clash_total o = then_total (on_total (λ (c : RoleClash). length c.path) nat_cmp_total) (then_total (on_total (λ (c : RoleClash). c.path) (lists_total (role_total o))) (on_total (λ (c : RoleClash). c.inclusion) nat_cmp_total))

-- what isn't after what isn't after something isn't after that
pub not_after_both : {X : Type 0} (cmp : X → X → Ordering) → IsTotalOrder cmp → (x y z : X) → cmp x y ≢ Greater → cmp y z ≢ Greater → cmp x z ≢ Greater
not_after_both {X} cmp total x y z first second = by (cmp x y) refl
  where
    by : (r : Ordering) → cmp x y ≡ r → cmp x z ≢ Greater
    by Less e = before_both cmp total x y z e second
    by Equal e = λ greater. second (sym (total.congr x y z e) ∙ greater)
    by Greater e = absurd (first e)

-- the roles of a clash are the ontology's
path_placed : (o : Terminology) → IsTerminology o → (r : Role) (rest : List Role) → r.name < length o.roles → MayFollow o.inclusions (HeldBehind r) rest → AllByRecursion (λ (s : Role). s.name < length o.roles) (r ∷ rest)
path_placed o within r [] placed follows = (placed, tt)
path_placed o within r (s ∷ rest) placed follows = (placed, path_placed o within s rest (derived_role o r s within placed follows.0) follows.1)

pub clash_placed : (o : Terminology) → IsTerminology o → (r : Role) (c : RoleClash) → r.name < length o.roles → IsClashFrom o r c → All (λ (s : Role). s.name < length o.roles) c.path
clash_placed o within r c placed from =
    subst (All (λ (s : Role). s.name < length o.roles)) (sym from.begins) (all-of (λ (s : Role). s.name < length o.roles) (r ∷ from.rest) (path_placed o within r from.rest placed from.clashes.follows))

-- one more place is looked at
module _ (o : Terminology) (derived : Basic → Type 0) (r : Role) (place : ℕ) (at : role_place r ≡ place) where
  wider : (c : RoleClash) → IsClashBehind o derived place c → IsClashBehind o derived (place + 1) c
  wider c b = record { role = b.role; below = (let below = b.below in omega arith); has = b.has; from = b.from }

  here : (c : RoleClash) → derived (basic.Exists r) → IsClashFrom o r c → IsClashBehind o derived (place + 1) c
  here c has from = record { role = r; below = omega arith; has = has; from = from }

  old_or_here : (c : RoleClash) → IsClashBehind o derived (place + 1) c → IsClashBehind o derived place c ⊎ (derived (basic.Exists r) × IsClashFrom o r c)
  old_or_here c b = elim (cases_eq (role_place b.role) place) [
    | inl same ↦
        let is : b.role ≡ r = role_place-same b.role r (same ∙ sym at) in
        inr (subst (λ (s : Role). derived (basic.Exists s)) is b.has, subst (λ (s : Role). IsClashFrom o s c) is b.from)
    | inr other ↦ inl (record { role = b.role; below = (let below = b.below in omega arith); has = b.has; from = b.from })
  ]

  pub least_skips : (x : Option RoleClash) → (derived (basic.Exists r) → ⊥) → IsLeastBehind o derived place x → IsLeastBehind o derived (place + 1) x
  least_skips None not least = λ c b. elim (old_or_here c b) [ inl old ↦ least c old | inr new ↦ not new.0 ]
  least_skips (Some c) not least = (wider c least.0, λ d b. elim (old_or_here d b) [ inl old ↦ least.1 d old | inr new ↦ absurd (not new.0) ])

  pub least_takes : (x y z : Option RoleClash) → derived (basic.Exists r) → IsFirstFrom o r y → IsLesserClash o x y z → IsLeastBehind o derived place x → IsLeastBehind o derived (place + 1) z
  least_takes None None z has first lesser least = subst (IsLeastBehind o derived (place + 1)) (sym lesser)
      (λ c b. elim (old_or_here c b) [ inl old ↦ least c old | inr new ↦ first c new.1 ])
  least_takes None (Some d) z has first lesser least = subst (IsLeastBehind o derived (place + 1)) (sym lesser)
      (here d has first.0, λ e b. elim (old_or_here e b) [ inl old ↦ absurd (least e old) | inr new ↦ first.1 e new.1 ])
  least_takes (Some c) None z has first lesser least = subst (IsLeastBehind o derived (place + 1)) (sym lesser)
      (wider c least.0, λ e b. elim (old_or_here e b) [ inl old ↦ least.1 e old | inr new ↦ absurd (first e new.1) ])
  least_takes (Some c) (Some d) z has first (inl (same, before)) least = subst (IsLeastBehind o derived (place + 1)) (sym same)
      (wider c least.0, λ e b. elim (old_or_here e b) [ inl old ↦ least.1 e old | inr new ↦ not_after_both (clash_cmp o) (clash_total o) c d e before (first.1 e new.1) ])
  least_takes (Some c) (Some d) z has first (inr (same, less)) least = subst (IsLeastBehind o derived (place + 1)) (sym same)
      (here d has first.0, λ e b. elim (old_or_here e b) [ inl old ↦ before_both (clash_cmp o) (clash_total o) d c e less (least.1 e old) | inr new ↦ first.1 e new.1 ])

module _ (o : Terminology) (held : Basic → Type 0) (c : ClosedSet) (closure : IsClosure o.inclusions held c) where
  -- an inclusion is violated at once
  pub own_first_after : (k : ℕ) → c.violated ≡ Some k → IsFirstAfter o held (Some (record { inclusion = k; path = [] }))
  own_first_after k violated = (record { follows = tt; violates = least.0 }, λ d after. first d d.path refl (subst (λ (p : List Role). ClashesAfter o.inclusions held p d.inclusion) refl after))
    where
      least : IsLeastViolated o.inclusions held (Some k)
      least = subst (IsLeastViolated o.inclusions held) violated closure.violated

      first : (d : RoleClash) (p : List Role) → d.path ≡ p → ClashesAfter o.inclusions held p d.inclusion → clash_cmp o (record { inclusion = k; path = [] }) d ≢ Greater
      first d [] path after =
          let none_before : d.inclusion < k → ⊥ = λ less. least.1 d.inclusion less after.violates in
          let is : clash_cmp o (record { inclusion = k; path = [] }) d ≡ nat_cmp k d.inclusion =
          λ j. ordering_then (nat_cmp 0 (length (path j))) (ordering_then (slice_cmp (role_cmp o) [] (path j)) (nat_cmp k d.inclusion)) in
          λ greater. nat_not_after k d.inclusion (omega arith) (sym is ∙ greater)
      first d (r ∷ rest) path after = shorter_first o (record { inclusion = k; path = [] }) d (let long : length d.path ≡ length (r ∷ rest) = ap length path in omega arith)

  module _ (within : IsTerminology o) (placed : (b : Basic) → held b → IsPlaced (length o.concepts) (length o.roles) b) (none : c.violated ≡ None) where
    to_behind : (d : RoleClash) → ClashesAfter o.inclusions held d.path d.inclusion → IsClashBehind o (HasBasic c.derived) (2 * length o.roles) d
    to_behind d after = by d.path refl after
      where
        by : (p : List Role) → d.path ≡ p → ClashesAfter o.inclusions held p d.inclusion → IsClashBehind o (HasBasic c.derived) (2 * length o.roles) d
        by [] path there = absurd (subst (IsLeastViolated o.inclusions held) none closure.violated d.inclusion there.violates)
        by (r ∷ rest) path there = record {
          role = r;
          below = place_below (length o.roles) r (derived_placed o within held placed (basic.Exists r) there.follows.0);
          has = (closure.derived (basic.Exists r)).1 there.follows.0;
          from = record { rest = rest; begins = path; clashes = record { follows = there.follows.1; violates = there.violates } };
        }

    from_behind : (d : RoleClash) → IsClashBehind o (HasBasic c.derived) (2 * length o.roles) d → ClashesAfter o.inclusions held d.path d.inclusion
    from_behind d b = subst (λ (p : List Role). ClashesAfter o.inclusions held p d.inclusion) (sym b.from.begins) (record {
      follows = ((closure.derived (basic.Exists b.role)).0 b.has, b.from.clashes.follows);
      violates = b.from.clashes.violates;
    })

    pub behind_first_after : (x : Option RoleClash) → IsLeastBehind o (HasBasic c.derived) (2 * length o.roles) x → IsFirstAfter o held x
    behind_first_after None least = λ d after. least d (to_behind d after)
    behind_first_after (Some d) least = (from_behind d least.0, λ e after. least.1 e (to_behind e after))

-- what an individual holds is of the ontology
pub held_placed : (o : Terminology) (rows : List NamedRow) (a : List ℕ) (b : Basic) → Held o rows a b → IsPlaced (length o.concepts) (length o.roles) b
held_placed o rows a (basic.Concept c) h = slice_get_within o.concepts c h.name h.named
held_placed o rows a (basic.Exists r) h = slice_get_within o.roles r.name h.1.name h.1.named

-- the same by references to clashes
pub keeps_known : (o : Terminology) (known other : Option (Bor RoleClash)) (c d : Bor RoleClash) → known ≡ Some c → other ≡ Some d → clash_cmp o d.now c.now ≢ Less
    → IsLesserClash o (option_copied known) (option_copied other) (option_copied known)
keeps_known o known other c d known_is other_is not_less =
    subst (λ (x : Option (Bor RoleClash) × Option (Bor RoleClash)). IsLesserClash o (option_copied x.0) (option_copied x.1) (option_copied x.0)) (λ j. (sym known_is j, sym other_is j))
    (inl (refl, turned_round (clash_cmp o) (clash_total o) c.now d.now not_less))

pub first_copied : (o : Terminology) (r : Role) (ref : Option (Bor RoleClash)) → MatchOption ref (IsFirstFrom o r None) (λ c. IsFirstFrom o r (Some c.now)) → IsFirstFrom o r (option_copied ref)
first_copied o r None first = first
first_copied o r (Some c) first = first

pub first_placed : (o : Terminology) (r : Role) (ref : Option (Bor RoleClash)) → IsTerminology o → r.name < length o.roles → MatchOption ref (IsFirstFrom o r None) (λ c. IsFirstFrom o r (Some c.now))
    → MatchOption ref (Unit {0}) (λ c. All (λ (s : Role). s.name < length o.roles) c.now.path)
first_placed o r None within placed first = tt
first_placed o r (Some c) within placed first = clash_placed o within r c.now placed first.0

pub known_placed : (o : Terminology) (derived : Basic → Type 0) (place : ℕ) (ref : Option (Bor RoleClash)) → IsTerminology o → place ≤ 2 * length o.roles → IsLeastBehind o derived place (option_copied ref)
    → MatchOption ref (Unit {0}) (λ c. All (λ (s : Role). s.name < length o.roles) c.now.path)
known_placed o derived place None within few least = tt
known_placed o derived place (Some c) within few least =
    clash_placed o within least.0.role c.now (name_below (length o.roles) least.0.role (let below = least.0.below in omega arith)) least.0.from

pub behind_placed : (o : Terminology) (derived : Basic → Type 0) (place : ℕ) (c : RoleClash) → IsTerminology o → place ≤ 2 * length o.roles → IsClashBehind o derived place c → All (λ (s : Role). s.name < length o.roles) c.path
behind_placed o derived place c within few b = clash_placed o within b.role c (name_below (length o.roles) b.role (let below = b.below in omega arith)) b.from
