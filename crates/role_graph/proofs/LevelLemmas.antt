-- One level of first clashes after another.
use Rattle.std.proofs.Common.{◌≡◌, ◌≢◌, ℕ, suc, ◌+◌, ◌*◌, ◌<◌, ◌≤◌, ◌⊎◌, inl, inr, Bool, true, false, List, [], ◌∷◌, length, slice_get, Contains, Option, Some, None, refl, sym, ◌∙◌, ap, subst, arith, if◌then◌else◌}
use Rattle.std.specs.declared.cmp.Ordering.{Ordering}
use Rattle.std.specs.declared.cmp.Ordering.TheVariants.{Less, Equal, Greater}
use Rattle.std.proofs.lemmas.Bool.{cases_eq}
use Rattle.std.proofs.lemmas.Option.{slice_get_within}
use Rattle.dl_base.specs.Clashes.{role_cmp}
use Rattle.dl_base.specs.Derivation.{Derives, HeldBehind, Violates}
use Rattle.dl_base.specs.Ontology.{Terminology, IsTerminology}
use Rattle.dl_base.specs.Paths.{ClashesAfter}
use Rattle.dl_base.specs.Sets.{role_place}
use Rattle.dl_base.specs.declared.concept.Basic.TheVariants as basic
use Rattle.dl_base.specs.declared.concept.Role.{Role}
use Rattle.dl_base.proofs.ClashLemmas.{role_same}
use Rattle.dl_base.proofs.PathLemmas.{derived_role}
use Rattle.dl_base.proofs.PlaceLemmas.{something_at}
use Rattle.role_graph.specs.declared.clash.RoleClash.{RoleClash}
use Rattle.role_graph.specs.FirstClashes.{IsClashFrom, IsFirstFrom, clash_cmp, AreFirst}
use Rattle.role_graph.specs.Levels.{IsFirstWithin, IsFoundAt, IsLevel}
use Rattle.role_graph.proofs.ClashLemmas.{IsOwn, IsLed, own_or_led, in_front, front_cmp, shorter_first, lesser_first}

-- the place of a role of the ontology, and back
pub place_below : (n : ℕ) (r : Role) → r.name < n → role_place r < 2 * n
place_below n r placed = by r.inverse
  where
    by : (t : Bool) → 2 * r.name + (if t then 1 else 0) < 2 * n
    by true = omega arith
    by false = omega arith

pub name_below : (n : ℕ) (r : Role) → role_place r < 2 * n → r.name < n
name_below n r below = by r.inverse below
  where
    by : (t : Bool) → 2 * r.name + (if t then 1 else 0) < 2 * n → r.name < n
    by true h = omega arith
    by false h = omega arith

module _ (o : Terminology) (within : IsTerminology o) (clashes : List (Option RoleClash)) (level : List Role) (is : IsLevel o clashes level) where
  -- what is known of a role
  known : (r : Role) → r.name < length o.roles → (c : Option RoleClash) × (slice_get clashes (role_place r) ≡ Some c)
  known r placed = something_at clashes (role_place r) (let below = place_below (length o.roles) r placed in let each = is.each in omega arith)

  -- a clash of a role leads on to one of the level where it is just one longer than the level's
  record Reaches (r : Role) (d : RoleClash) : Type 0 where
    led : IsLed o r d
    placed : led.next.name < length o.roles
    in_level : Contains level led.next
    same : length led.clash.path ≡ is.depth

  -- no clash that is known of a next role is shorter than the level's, where none is known of the role itself
  not_shorter : (r s : Role) (c : RoleClash) → slice_get clashes (role_place r) ≡ Some None → Derives o.inclusions (HeldBehind r) (basic.Exists s) → IsClashFrom o s c → is.depth ≤ length c.path
  not_shorter r s c none derived from =
      let longer : RoleClash = record { inclusion = c.inclusion; path = r ∷ c.path } in
      let past : is.depth < length longer.path = is.first r None none longer (in_front o r s c longer derived from refl refl) in
      omega arith

  reaches : (r : Role) (d : RoleClash) → r.name < length o.roles → slice_get clashes (role_place r) ≡ Some None → IsClashFrom o r d → length d.path ≡ is.depth + 1 → Reaches r d
  reaches r d placed none from same = by (own_or_led o r d from)
    where
      by : IsOwn o r d ⊎ IsLed o r d → Reaches r d
      by (inl own) = absurd (let one : length d.path ≡ 1 = ap length own.path in let some = is.some in omega arith)
      by (inr led) = record { led = led; placed = next_placed; in_level = (is.level led.next).1 found; same = tail }
        where
          next_placed : led.next.name < length o.roles
          next_placed = derived_role o r led.next within placed led.derived

          tail : length led.clash.path ≡ is.depth
          tail = let long : length d.path ≡ suc (length led.clash.path) = ap length led.path in omega arith

          look : (x : Option RoleClash) → slice_get clashes (role_place led.next) ≡ Some x → IsFirstWithin o is.depth led.next x → IsFoundAt clashes is.depth led.next
          look None at first = absurd (let past = first led.clash led.from_next in let long = tail in omega arith)
          look (Some c) at first =
              let most = first.1 in
              let least = not_shorter r led.next c none led.derived first.0.0 in
              (c, at, omega arith)

          found : IsFoundAt clashes is.depth led.next
          found = let at = known led.next next_placed in look at.0 at.1 (is.first led.next at.0 at.1)

  -- where no role of the level is derived behind a role without a known clash, it has none that is one longer
  pub none_next : (r : Role) → r.name < length o.roles → slice_get clashes (role_place r) ≡ Some None
      → ((s : Role) → Contains level s → Derives o.inclusions (HeldBehind r) (basic.Exists s) → ⊥) → IsFirstWithin o (is.depth + 1) r None
  none_next r placed none nothing d from = elim (cases_eq (length d.path) (is.depth + 1)) [
    | inl same ↦ let to = reaches r d placed none from same in absurd (nothing to.led.next to.in_level to.led.derived)
    | inr other ↦ let past = is.first r None none d from in omega arith
  ]

  -- where the level has some, the least of these is next, and its clash with the role in front is the first
  pub least_next : (r s : Role) (c new : RoleClash) → r.name < length o.roles → s.name < length o.roles → slice_get clashes (role_place r) ≡ Some None
      → slice_get clashes (role_place s) ≡ Some (Some c) → Contains level s → Derives o.inclusions (HeldBehind r) (basic.Exists s)
      → ((t : Role) → Contains level t → Derives o.inclusions (HeldBehind r) (basic.Exists t) → role_cmp o s t ≢ Greater)
      → new.path ≡ r ∷ c.path → new.inclusion ≡ c.inclusion → IsFirstFrom o r (Some new) × (length new.path ≡ is.depth + 1)
  least_next r s c new placed s_placed none at in_level derived least path_is inclusion_is = ((from_r, first), long)
    where
      first_of_s : IsFirstFrom o s (Some c)
      first_of_s = (is.first s (Some c) at).0

      from_r : IsClashFrom o r new
      from_r = in_front o r s c new derived first_of_s.0 path_is inclusion_is

      one_clash : (x : RoleClash) → slice_get clashes (role_place s) ≡ Some (Some x) → length x.path ≡ is.depth → length c.path ≡ is.depth
      one_clash x at_x long = let e : Some (Some c) ≡ Some (Some x) = sym at ∙ at_x in let f : c ≡ x = cc in ap (λ (y : RoleClash). length y.path) f ∙ long

      depth_of_c : length c.path ≡ is.depth
      depth_of_c = let found = (is.level s).0 in_level in one_clash found.0 found.1 found.2

      long : length new.path ≡ is.depth + 1
      long = let e : length new.path ≡ suc (length c.path) = ap length path_is in let d = depth_of_c in omega arith

      tail_first : (d : RoleClash) (to : Reaches r d) (x : Ordering) → role_cmp o s to.led.next ≡ x → x ≢ Greater → clash_cmp o c to.led.clash ≢ Greater
      tail_first d to Less e not_after = lesser_first o s to.led.next c to.led.clash first_of_s.0 to.led.from_next (depth_of_c ∙ sym to.same) e
      tail_first d to Equal e not_after =
          first_of_s.1 to.led.clash (subst (λ (t : Role). IsClashFrom o t to.led.clash) (sym (role_same o [] within s to.led.next s_placed to.placed e)) to.led.from_next)
      tail_first d to Greater e not_after = absurd (not_after refl)

      first : (d : RoleClash) → IsClashFrom o r d → clash_cmp o new d ≢ Greater
      first d from = elim (cases_eq (length d.path) (is.depth + 1)) [
        | inl same ↦
            let to = reaches r d placed none from same in
            let tail = tail_first d to (role_cmp o s to.led.next) refl (least to.led.next to.in_level to.led.derived) in
            λ greater. tail (sym (front_cmp o r new d c to.led.clash path_is inclusion_is to.led.path to.led.inclusion) ∙ greater)
        | inr other ↦ shorter_first o new d (let past = is.first r None none d from in let l = long in omega arith)
      ]

  -- where the level is empty, no further clash is left
  module _ (ends : level ≡ []) where
    none_left : (rest : List Role) (r : Role) (k : ℕ) → r.name < length o.roles → slice_get clashes (role_place r) ≡ Some None → ClashesAfter o.inclusions (HeldBehind r) rest k → ⊥
    none_left [] r k placed none clashes_there =
        let past = is.first r None none (record { inclusion = k; path = r ∷ [] }) (record { rest = []; begins = refl; clashes = clashes_there }) in
        let some = is.some in
        absurd (omega arith)
    none_left (s ∷ rest) r k placed none clashes_there = look at.0 at.1 (is.first s at.0 at.1) (λ none_s. none_left rest s k s_placed none_s after_s)
      where
        s_placed : s.name < length o.roles
        s_placed = derived_role o r s within placed clashes_there.follows.0

        at : (c : Option RoleClash) × (slice_get clashes (role_place s) ≡ Some c)
        at = known s s_placed

        after_s : ClashesAfter o.inclusions (HeldBehind s) rest k
        after_s = record { follows = clashes_there.follows.1; violates = clashes_there.violates }

        look : (x : Option RoleClash) → slice_get clashes (role_place s) ≡ Some x → IsFirstWithin o is.depth s x → (slice_get clashes (role_place s) ≡ Some None → ⊥) → ⊥
        look None at_x first next = next at_x
        look (Some c) at_x first next =
            let most = first.1 in
            let least = not_shorter r s c none clashes_there.follows.0 first.0.0 in
            let member : Contains [] s = subst (λ (l : List Role). Contains l s) ends ((is.level s).1 (c, at_x, omega arith)) in
            absurd (let below = member.1 in omega arith)

    pub all_first : AreFirst o clashes
    all_first = record { each = is.each; first = by }
      where
        by : (r : Role) (c : Option RoleClash) → slice_get clashes (role_place r) ≡ Some c → IsFirstFrom o r c
        by r None at = λ d from. none_left from.rest r d.inclusion (name_below (length o.roles) r (let below = slice_get_within clashes (role_place r) None at in let each = is.each in omega arith)) at from.clashes
        by r (Some c) at = (is.first r (Some c) at).0

pub no_roles : (level : List Role) → length level ≡ 0 → level ≡ []
no_roles [] e = refl
no_roles (r ∷ rs) e = absurd (omega arith)
