-- What a loop over places adds to a level, by what was read at the place.
use Rattle.std.proofs.Common.{◌≡◌, ◌≢◌, ℕ, zero, suc, ◌+◌, ◌*◌, ◌<◌, ◌≤◌, ◌↔◌, Bool, true, false, not, List, [], ◌∷◌, ◌++◌, length, get_or, set, slice_get, slice_index_or, Contains, All, Option, Some, None, refl, sym, ◌∙◌, ap, subst, arith}
use Rattle.std.specs.declared.cmp.Ordering.TheVariants.{Greater}
use Rattle.std.specs.Option.{is_some}
use Rattle.std.proofs.lemmas.Option.{slice_get_within, slice_get-get_or}
use Rattle.dl_base.specs.Clashes.{role_cmp}
use Rattle.dl_base.specs.Derivation.{Derives, HeldBehind}
use Rattle.dl_base.specs.Ontology.{Terminology, IsTerminology}
use Rattle.dl_base.specs.Sets.{role_place, HasBasic}
use Rattle.dl_base.specs.declared.concept.Basic.{Basic}
use Rattle.dl_base.specs.declared.concept.Basic.TheVariants as basic
use Rattle.dl_base.specs.declared.concept.Inclusion.{Inclusion}
use Rattle.dl_base.specs.declared.concept.Role.{Role}
use Rattle.dl_base.proofs.DerivationLemmas.{all-of}
use Rattle.dl_base.proofs.PathLemmas.{derived_role}
use Rattle.horn_closure.specs.Closure.{ClosedSet, IsClosure, IsLeastViolated}
use Rattle.role_graph.specs.declared.clash.RoleClash.{RoleClash}
use Rattle.role_graph.specs.FirstClashes.{IsFirstFrom}
use Rattle.role_graph.specs.Levels.{IsFirstWithin, IsFoundAt, IsLevel}
use Rattle.role_graph.specs.Order.{IsLeastRole}
use Rattle.role_graph.proofs.LevelLemmas.{name_below, none_next, least_next}
use Rattle.role_graph.proofs.StepLemmas.{IsFirstLevel, first_found, first_passed, IsHalfway, half_known, half_unknown, half_found, same_in}

module _ (o : Terminology) (within : IsTerminology o) where
  pub first_step_found : (clashes : List (Option RoleClash)) (level : List Role) (place : ℕ) (r : Role) (c : ClosedSet) (k : ℕ) (new : RoleClash) → role_place r ≡ place → IsClosure o.inclusions (HeldBehind r) c
      → c.violated ≡ Some k → new.path ≡ r ∷ [] → new.inclusion ≡ k → IsFirstLevel o place clashes level → IsFirstLevel o (place + 1) (clashes ++ Some new ∷ []) (level ++ r ∷ [])
  first_step_found clashes level place r c k new at_place closure violated path_is inclusion_is is =
      let least = subst (IsLeastViolated o.inclusions (HeldBehind r)) violated closure.violated in
      subst (λ (p : ℕ). IsFirstLevel o (p + 1) (clashes ++ Some new ∷ []) (level ++ r ∷ [])) at_place
      (first_found o clashes level r k new (subst (λ (p : ℕ). IsFirstLevel o p clashes level) (sym at_place) is) least path_is inclusion_is)

  pub first_step_none : (clashes : List (Option RoleClash)) (level : List Role) (place : ℕ) (r : Role) (c : ClosedSet) → role_place r ≡ place → IsClosure o.inclusions (HeldBehind r) c
      → c.violated ≡ None → IsFirstLevel o place clashes level → IsFirstLevel o (place + 1) (clashes ++ None ∷ []) level
  first_step_none clashes level place r c at_place closure violated is =
      let none = subst (IsLeastViolated o.inclusions (HeldBehind r)) violated closure.violated in
      subst (λ (p : ℕ). IsFirstLevel o (p + 1) (clashes ++ None ∷ []) level) at_place
      (first_passed o clashes level r (subst (λ (p : ℕ). IsFirstLevel o p clashes level) (sym at_place) is) none)

  module _ (old : List (Option RoleClash)) (level : List Role) (before : IsLevel o old level) where
    -- the roles of a level are the ontology's, and their clashes are known
    pub level_placed : (s : Role) → Contains level s → s.name < length o.roles
    level_placed s has =
        let found = (before.level s).0 has in
        name_below (length o.roles) s (let below = slice_get_within old (role_place s) (Some found.0) found.1 in let each = before.each in omega arith)

    pub level_small : (s : Role) → Contains level s → s.name < 256
    level_small s has = let below = level_placed s has in let most = within.roles in omega arith

    pub level_all : All (λ (s : Role). s.name < length o.roles) level
    level_all k d below = level_placed (slice_index_or level k d) (k, below, same_read level k d (slice_index_or level k d) below)
      where
        same_read : (xs : List Role) (i : ℕ) (d e : Role) → i < length xs → get_or xs i e ≡ get_or xs i d
        same_read [] i d e h = absurd (omega arith)
        same_read (x ∷ xs) zero d e h = refl
        same_read (x ∷ xs) (suc i) d e h = same_read xs i d e (omega arith)

    module _ (place : ℕ) (now : List (Option RoleClash)) (next : List Role) (is : IsHalfway o before.depth old place now next) where
      pub known_now : (s : Role) → Contains level s → (c : RoleClash) × (slice_get now (role_place s) ≡ Some (Some c))
      known_now s has = let found = (before.level s).0 has in (found.0, is.kept (role_place s) found.0 found.1)

      module _ (r : Role) (at_place : role_place r ≡ place) where
        is_here : IsHalfway o before.depth old (role_place r) now next
        is_here = subst (λ (p : ℕ). IsHalfway o before.depth old p now next) (sym at_place) is

        none_before : slice_get now place ≡ Some None → slice_get old (role_place r) ≡ Some None
        none_before none = ap (slice_get old) at_place ∙ sym (is.rest place (omega arith)) ∙ none

        pub step_known : (c : RoleClash) → slice_get now place ≡ Some (Some c) → IsHalfway o before.depth old (place + 1) now next
        step_known c at = subst (λ (p : ℕ). IsHalfway o before.depth old (p + 1) now next) at_place
            (half_known o old level before now next r c is_here (ap (slice_get now) at_place ∙ at))

        module _ (placed : r.name < length o.roles) (c : ClosedSet) (closure : IsClosure o.inclusions (HeldBehind r) c) (none : slice_get now place ≡ Some None) where
          derives : (b : Basic) → HasBasic c.derived b ↔ Derives o.inclusions (HeldBehind r) b
          derives = closure.derived

          pub step_none : IsLeastRole o (λ s. Contains level s × HasBasic c.derived (basic.Exists s)) None → IsHalfway o before.depth old (place + 1) now next
          step_none nothing = subst (λ (p : ℕ). IsHalfway o before.depth old (p + 1) now next) at_place
              (half_unknown o before.depth old now next r is_here (ap (slice_get now) at_place ∙ none)
              (none_next o within old level before r placed (none_before none) (λ s has d. nothing s (has, (derives (basic.Exists s)).1 d))))

          pub step_found : (s : Role) (known new : RoleClash) → IsLeastRole o (λ s. Contains level s × HasBasic c.derived (basic.Exists s)) (Some s)
              → slice_get now (role_place s) ≡ Some (Some known) → new.path ≡ r ∷ known.path → new.inclusion ≡ known.inclusion
              → IsHalfway o before.depth old (place + 1) (set now place (Some new)) (next ++ r ∷ [])
          step_found s known new least at_s path_is inclusion_is =
              let found = (before.level s).0 least.0.0 in
              let same = same_in found.0 known (sym (is.kept (role_place s) found.0 found.1) ∙ at_s) in
              let at_old = found.1 ∙ ap (λ (x : RoleClash). Some (Some x)) same in
              let both = least_next o within old level before r s known new placed (level_placed s least.0.0) (none_before none) at_old least.0.0
              ((derives (basic.Exists s)).0 least.0.1) (λ t has d. least.1 t (has, (derives (basic.Exists t)).1 d)) path_is inclusion_is in
              subst (λ (p : ℕ). IsHalfway o before.depth old (p + 1) (set now p (Some new)) (next ++ r ∷ [])) at_place
              (half_found o before.depth old now next r new is_here (ap (slice_get now) at_place ∙ none) both.0 both.1)

-- what a place holds, by the test whether it is empty
pub empty_slot : (clashes : List (Option RoleClash)) (place : ℕ) (x : Option RoleClash) (t : Bool) → place < length clashes → is_some (get_or clashes place x) ≡ not t → t ≡ true → slice_get clashes place ≡ Some None
empty_slot clashes place x t below test is = slice_get-get_or clashes place x below ∙ ap Some (by (get_or clashes place x) test)
  where
    by : (y : Option RoleClash) → is_some y ≡ not t → y ≡ None
    by None e = refl
    by (Some c) e = absurd (let f : true ≡ false = e ∙ ap not is in cc)

pub full_slot : (clashes : List (Option RoleClash)) (place : ℕ) (x : Option RoleClash) (t : Bool) → place < length clashes → is_some (get_or clashes place x) ≡ not t → t ≡ false
    → (c : RoleClash) × (slice_get clashes place ≡ Some (Some c))
full_slot clashes place x t below test is = by (get_or clashes place x) test (slice_get-get_or clashes place x below)
  where
    by : (y : Option RoleClash) → is_some y ≡ not t → slice_get clashes place ≡ Some y → (c : RoleClash) × (slice_get clashes place ≡ Some (Some c))
    by None e at = absurd (let f : false ≡ true = e ∙ ap not is in cc)
    by (Some c) e at = (c, at)
