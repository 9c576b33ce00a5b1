-- The steps by which a level of first clashes is made.
use Rattle.std.proofs.Common.{◌≡◌, ◌≢◌, ℕ, zero, suc, ◌+◌, ◌*◌, ◌<◌, ◌≤◌, ◌⊎◌, ◌↔◌, inl, inr, List, [], ◌∷◌, ◌++◌, length, length-append, set, slice_get, Contains, Option, Some, None, refl, sym, ◌∙◌, ap, subst, arith}
use Rattle.std.specs.declared.cmp.Ordering.TheVariants.{Greater}
use Rattle.std.proofs.lemmas.Bool.{cases_eq}
use Rattle.std.proofs.lemmas.List.{length-set}
use Rattle.std.proofs.lemmas.List.Elements.{Contains-append_left, Contains-push}
use Rattle.std.proofs.lemmas.Option.{slice_get_within, slice_get_past}
use Rattle.dl_base.specs.Derivation.{HeldBehind, Violates}
use Rattle.dl_base.specs.Ontology.{Terminology}
use Rattle.dl_base.specs.Sets.{role_place}
use Rattle.dl_base.specs.declared.concept.Role.{Role}
use Rattle.dl_base.proofs.PlaceLemmas.{got_pushed, last_place, place_stays}
use Rattle.dl_base.proofs.RowLemmas.{contains_cut}
use Rattle.dl_base.proofs.SetLemmas.{role_place-same}
use Rattle.horn_closure.specs.Closure.{IsLeastViolated}
use Rattle.role_graph.specs.declared.clash.RoleClash.{RoleClash}
use Rattle.role_graph.specs.FirstClashes.{IsClashFrom, IsFirstFrom, clash_cmp}
use Rattle.role_graph.specs.Levels.{IsFirstWithin, IsFoundAt, IsLevel, unknown}
use Rattle.role_graph.proofs.ClashLemmas.{IsOwn, IsLed, own_or_led, own_from, own_first, shorter_first}

-- what stands at a place of a changed list
set_there : {X : Type 0} (xs : List X) (x : X) (q : ℕ) → q < length xs → slice_get (set xs q x) q ≡ Some x
set_there [] x q below = absurd (omega arith)
set_there (z ∷ xs) x zero below = refl
set_there (z ∷ xs) x (suc q) below = set_there xs x q (omega arith)

set_elsewhere : {X : Type 0} (xs : List X) (x : X) (p q : ℕ) → q ≢ p → slice_get (set xs p x) q ≡ slice_get xs q
set_elsewhere [] x p q other = refl
set_elsewhere (z ∷ xs) x zero zero other = absurd (other refl)
set_elsewhere (z ∷ xs) x zero (suc q) other = refl
set_elsewhere (z ∷ xs) x (suc p) zero other = refl
set_elsewhere (z ∷ xs) x (suc p) (suc q) other = set_elsewhere xs x p q (λ e. other (ap suc e))

-- one fewer is unknown where a clash is written to an empty place
one_fewer : (cs : List (Option RoleClash)) (q : ℕ) (c : RoleClash) → slice_get cs q ≡ Some None → unknown (set cs q (Some c)) + 1 ≡ unknown cs
one_fewer [] q c at = absurd cc
one_fewer (None ∷ cs) zero c at = omega arith
one_fewer (Some d ∷ cs) zero c at = absurd (let e : Some d ≡ None = cc in cc)
one_fewer (None ∷ cs) (suc q) c at = let rest = one_fewer cs q c at in omega arith
one_fewer (Some d ∷ cs) (suc q) c at = one_fewer cs q c at

-- a list that leads on has two roles or more
long_led : (o : Terminology) (r : Role) (d : RoleClash) → IsLed o r d → 1 < length d.path
long_led o r d led =
    let whole : length d.path ≡ suc (length led.clash.path) = ap length led.path in
    let rest : length led.clash.path ≡ suc (length led.from_next.rest) = ap length led.from_next.begins in
    omega arith

-- the first clash with one role is of the least inclusion that is violated behind it
own_is_first : (o : Terminology) (r : Role) (k : ℕ) (new : RoleClash) → IsLeastViolated o.inclusions (HeldBehind r) (Some k) → new.path ≡ r ∷ [] → new.inclusion ≡ k → IsFirstFrom o r (Some new)
own_is_first o r k new least path_is inclusion_is = (own_from o r new path_is (subst (Violates o.inclusions (HeldBehind r)) (sym inclusion_is) least.0), first)
  where
    first : (d : RoleClash) → IsClashFrom o r d → clash_cmp o new d ≢ Greater
    first d from = elim (own_or_led o r d from) [
      | inl own ↦ own_first o r new d path_is own.path (let none_before : d.inclusion < k → ⊥ = λ less. least.1 d.inclusion less own.violates in omega arith)
      | inr led ↦ shorter_first o new d (let one : length new.path ≡ 1 = ap length path_is in let two = long_led o r d led in omega arith)
    ]

none_is_own : (o : Terminology) (r : Role) → IsLeastViolated o.inclusions (HeldBehind r) None → IsFirstWithin o 1 r None
none_is_own o r none d from = elim (own_or_led o r d from) [
  | inl own ↦ absurd (none d.inclusion own.violates)
  | inr led ↦ long_led o r d led
]

-- the first level, for the roles of the first places
pub record IsFirstLevel (o : Terminology) (count : ℕ) (clashes : List (Option RoleClash)) (roles : List Role) : Type 0 where
  pub each : length clashes ≡ count
  pub first : (r : Role) (c : Option RoleClash) → slice_get clashes (role_place r) ≡ Some c → IsFirstWithin o 1 r c
  pub level : (r : Role) → Contains roles r ↔ IsFoundAt clashes 1 r

pub first_none : (o : Terminology) → IsFirstLevel o 0 [] []
first_none o = record { each = refl; first = λ r c at. absurd cc; level = λ r. (λ has. absurd (let below = has.1 in omega arith), λ found. absurd (let at = found.1 in cc)) }

-- the item in Some is one
pub same_in : (c d : RoleClash) → Some (Some c) ≡ Some (Some d) → c ≡ d
same_in c d e = cc

pub first_found : (o : Terminology) (clashes : List (Option RoleClash)) (level : List Role) (r : Role) (k : ℕ) (new : RoleClash) → IsFirstLevel o (role_place r) clashes level
    → IsLeastViolated o.inclusions (HeldBehind r) (Some k) → new.path ≡ r ∷ [] → new.inclusion ≡ k → IsFirstLevel o (role_place r + 1) (clashes ++ Some new ∷ []) (level ++ r ∷ [])
first_found o clashes level r k new is least path_is inclusion_is = record {
  each = rw length-append (let each = is.each in omega arith);
  first = λ s c at. elim (got_pushed clashes (Some new) c (role_place s) at) [
    | inl old ↦ is.first s c old
    | inr (last, same) ↦ subst (λ (x : Role × Option RoleClash). IsFirstWithin o 1 x.0 x.1) (λ j. (role_place-same r s (sym is.each ∙ sym last) j, sym same j)) new_within
  ];
  level = λ s. (
    λ has. elim (contains_cut level r s has) [
      | inl here ↦ subst (IsFoundAt (clashes ++ Some new ∷ []) 1) (sym here) new_found
      | inr old ↦ let found = (is.level s).0 old in (found.0, place_stays clashes (Some new ∷ []) (role_place s) (Some found.0) found.1, found.2)
    ],
    λ found. elim (got_pushed clashes (Some new) (Some found.0) (role_place s) found.1) [
      | inl old ↦ Contains-append_left level (r ∷ []) s ((is.level s).1 (found.0, old, found.2))
      | inr (last, same) ↦ subst (Contains (level ++ r ∷ [])) (role_place-same r s (sym is.each ∙ sym last)) (Contains-push level r)
    ],
  );
}
  where
    one : length new.path ≡ 1
    one = ap length path_is

    new_within : IsFirstWithin o 1 r (Some new)
    new_within = (own_is_first o r k new least path_is inclusion_is, (let e = one in omega arith))

    new_found : IsFoundAt (clashes ++ Some new ∷ []) 1 r
    new_found = (new, ap (slice_get (clashes ++ Some new ∷ [])) (sym is.each) ∙ last_place clashes (Some new), one)

pub first_passed : (o : Terminology) (clashes : List (Option RoleClash)) (level : List Role) (r : Role) → IsFirstLevel o (role_place r) clashes level
    → IsLeastViolated o.inclusions (HeldBehind r) None → IsFirstLevel o (role_place r + 1) (clashes ++ None ∷ []) level
first_passed o clashes level r is none = record {
  each = rw length-append (let each = is.each in omega arith);
  first = λ s c at. elim (got_pushed clashes None c (role_place s) at) [
    | inl old ↦ is.first s c old
    | inr (last, same) ↦ subst (λ (x : Role × Option RoleClash). IsFirstWithin o 1 x.0 x.1) (λ j. (role_place-same r s (sym is.each ∙ sym last) j, sym same j)) (none_is_own o r none)
  ];
  level = λ s. (
    λ has. let found = (is.level s).0 has in (found.0, place_stays clashes (None ∷ []) (role_place s) (Some found.0) found.1, found.2),
    λ found. elim (got_pushed clashes None (Some found.0) (role_place s) found.1) [
      | inl old ↦ (is.level s).1 (found.0, old, found.2)
      | inr (last, same) ↦ absurd (let e : Some found.0 ≡ None = same in cc)
    ],
  );
}

pub first_all : (o : Terminology) (count : ℕ) (clashes : List (Option RoleClash)) (level : List Role) → IsFirstLevel o count clashes level → count ≡ 2 * length o.roles → IsLevel o clashes level
first_all o count clashes level is all = record { depth = 1; some = omega arith; each = is.each ∙ all; first = is.first; level = is.level }

-- the next level, once it was looked behind the roles of the first places
pub record IsHalfway (o : Terminology) (depth : ℕ) (old : List (Option RoleClash)) (place : ℕ) (now : List (Option RoleClash)) (roles : List Role) : Type 0 where
  pub each : length now ≡ length old
  pub done : (r : Role) (c : Option RoleClash) → role_place r < place → slice_get now (role_place r) ≡ Some c → IsFirstWithin o (depth + 1) r c
  pub rest : (q : ℕ) → place ≤ q → slice_get now q ≡ slice_get old q
  pub kept : (q : ℕ) (c : RoleClash) → slice_get old q ≡ Some (Some c) → slice_get now q ≡ Some (Some c)
  pub found : (r : Role) → Contains roles r ↔ ((role_place r < place) × IsFoundAt now (depth + 1) r)
  pub fewer : unknown now + length roles ≡ unknown old

pub half_none : (o : Terminology) (depth : ℕ) (old : List (Option RoleClash)) → IsHalfway o depth old 0 old []
half_none o depth old = record {
  each = refl;
  done = λ r c below at. absurd (omega arith);
  rest = λ q past. refl;
  kept = λ q c at. at;
  found = λ r. (λ has. absurd (let below = has.1 in omega arith), λ found. absurd (let below = found.0 in omega arith));
  fewer = omega arith;
}

-- one more place, where nothing changes
half_passed : (o : Terminology) (depth : ℕ) (old : List (Option RoleClash)) (now : List (Option RoleClash)) (next : List Role) (r : Role) (x : Option RoleClash)
    → IsHalfway o depth old (role_place r) now next → slice_get now (role_place r) ≡ Some x → IsFirstWithin o (depth + 1) r x → (IsFoundAt now (depth + 1) r → ⊥)
    → IsHalfway o depth old (role_place r + 1) now next
half_passed o depth old now next r x is at first not_found = record {
  each = is.each;
  done = λ s c below at_s. elim (cases_eq (role_place s) (role_place r)) [
    | inl here ↦
        let same : r ≡ s = role_place-same r s (sym here) in
        let e : Some x ≡ Some c = sym at ∙ ap (λ (t : Role). slice_get now (role_place t)) same ∙ at_s in
        let f : x ≡ c = cc in
        subst (λ (y : Role × Option RoleClash). IsFirstWithin o (depth + 1) y.0 y.1) (λ j. (same j, f j)) first
    | inr other ↦ is.done s c (omega arith) at_s
  ];
  rest = λ q past. is.rest q (omega arith);
  kept = is.kept;
  found = λ s. (
    λ has. let found = (is.found s).0 has in let below = found.0 in (omega arith, found.1),
    λ found. elim (cases_eq (role_place s) (role_place r)) [
      | inl here ↦ absurd (not_found (subst (IsFoundAt now (depth + 1)) (role_place-same s r here) found.1))
      | inr other ↦ (is.found s).1 (let below = found.0 in omega arith, found.1)
    ],
  );
  fewer = is.fewer;
}

-- a clash was known before
pub half_known : (o : Terminology) (old : List (Option RoleClash)) (level : List Role) (before : IsLevel o old level) (now : List (Option RoleClash)) (next : List Role) (r : Role) (c : RoleClash)
    → IsHalfway o before.depth old (role_place r) now next → slice_get now (role_place r) ≡ Some (Some c) → IsHalfway o before.depth old (role_place r + 1) now next
half_known o old level before now next r c is at =
    half_passed o before.depth old now next r (Some c) is at (was.0, (let most = was.1 in omega arith)) (λ found.
    let same = same_in c found.0 (sym at ∙ found.1) in
    let long : length c.path ≡ before.depth + 1 = ap (λ (x : RoleClash). length x.path) same ∙ found.2 in
    let most = was.1 in
    absurd (omega arith))
  where
    was : IsFirstWithin o before.depth r (Some c)
    was = before.first r (Some c) (sym (is.rest (role_place r) (omega arith)) ∙ at)

-- there is none of this length
pub half_unknown : (o : Terminology) (depth : ℕ) (old now : List (Option RoleClash)) (next : List Role) (r : Role)
    → IsHalfway o depth old (role_place r) now next → slice_get now (role_place r) ≡ Some None → IsFirstWithin o (depth + 1) r None → IsHalfway o depth old (role_place r + 1) now next
half_unknown o depth old now next r is at first =
    half_passed o depth old now next r None is at first (λ found. absurd (let e : Some None ≡ Some (Some found.0) = sym at ∙ found.1 in cc))

-- a clash was found
pub half_found : (o : Terminology) (depth : ℕ) (old now : List (Option RoleClash)) (next : List Role) (r : Role) (new : RoleClash)
    → IsHalfway o depth old (role_place r) now next → slice_get now (role_place r) ≡ Some None → IsFirstFrom o r (Some new) → length new.path ≡ depth + 1
    → IsHalfway o depth old (role_place r + 1) (set now (role_place r) (Some new)) (next ++ r ∷ [])
half_found o depth old now next r new is at first long = record {
  each = length-set now (role_place r) (Some new) ∙ is.each;
  done = λ s c below at_s. elim (cases_eq (role_place s) (role_place r)) [
    | inl here ↦
        let same : r ≡ s = role_place-same r s (sym here) in
        let e : Some (Some new) ≡ Some c = sym there ∙ ap (λ (t : Role). slice_get changed (role_place t)) same ∙ at_s in
        let f : Some new ≡ c = cc in
        subst (λ (y : Role × Option RoleClash). IsFirstWithin o (depth + 1) y.0 y.1) (λ j. (same j, f j)) new_within
    | inr other ↦ is.done s c (omega arith) (sym (set_elsewhere now (Some new) (role_place r) (role_place s) other) ∙ at_s)
  ];
  rest = λ q past. set_elsewhere now (Some new) (role_place r) q (λ e. absurd (omega arith)) ∙ is.rest q (omega arith);
  kept = λ q c at_q. elim (cases_eq q (role_place r)) [
    | inl here ↦ absurd (let e : Some None ≡ Some (Some c) = sym at ∙ ap (slice_get now) (sym here) ∙ is.kept q c at_q in cc)
    | inr other ↦ set_elsewhere now (Some new) (role_place r) q other ∙ is.kept q c at_q
  ];
  found = λ s. (
    λ has. elim (contains_cut next r s has) [
      | inl here ↦ subst (λ (t : Role). (role_place t < role_place r + 1) × IsFoundAt changed (depth + 1) t) (sym here) (omega arith, (new, there, long))
      | inr old_one ↦
          let found = (is.found s).0 old_one in
          let below = found.0 in
          (omega arith, (found.1.0, set_elsewhere now (Some new) (role_place r) (role_place s) (λ e. absurd (omega arith)) ∙ found.1.1, found.1.2))
    ],
    λ found. elim (cases_eq (role_place s) (role_place r)) [
      | inl here ↦ subst (Contains (next ++ r ∷ [])) (sym (role_place-same s r here)) (Contains-push next r)
      | inr other ↦ Contains-append_left next (r ∷ []) s ((is.found s).1 (
        let below = found.0 in omega arith,
        (found.1.0, sym (set_elsewhere now (Some new) (role_place r) (role_place s) other) ∙ found.1.1, found.1.2),
      ))
    ],
  );
  fewer = rw length-append (let less = one_fewer now (role_place r) new at in let before = is.fewer in omega arith);
}
  where
    changed : List (Option RoleClash)
    changed = set now (role_place r) (Some new)

    there : slice_get (set now (role_place r) (Some new)) (role_place r) ≡ Some (Some new)
    there = set_there now (Some new) (role_place r) (slice_get_within now (role_place r) None at)

    new_within : IsFirstWithin o (depth + 1) r (Some new)
    new_within = (first, (let l = long in omega arith))

pub half_all : (o : Terminology) (old : List (Option RoleClash)) (level : List Role) (before : IsLevel o old level) (place : ℕ) (now : List (Option RoleClash)) (next : List Role)
    → IsHalfway o before.depth old place now next → 2 * length o.roles ≤ place → IsLevel o now next
half_all o old level before place now next is all = record {
  depth = before.depth + 1;
  some = omega arith;
  each = is.each ∙ before.each;
  first = λ r c at. is.done r c (let below = within r c at in omega arith) at;
  level = λ r. (λ has. ((is.found r).0 has).1, λ found. (is.found r).1 (let below = within r (Some found.0) found.1 in omega arith, found));
}
  where
    within : (r : Role) (c : Option RoleClash) → slice_get now (role_place r) ≡ Some c → role_place r < 2 * length o.roles
    within r c at = let below = slice_get_within now (role_place r) c at in let same : length now ≡ 2 * length o.roles = is.each ∙ before.each in omega arith

pub halfway_as : (o : Terminology) (depth : ℕ) (old : List (Option RoleClash)) (place : ℕ) (now now' : List (Option RoleClash)) (next next' : List Role) → now' ≡ now → next' ≡ next
    → IsHalfway o depth old place now next → IsHalfway o depth old place now' next'
halfway_as o depth old place now now' next next' e f is = subst (λ (x : List (Option RoleClash) × List Role). IsHalfway o depth old place x.0 x.1) (λ j. (sym e j, sym f j)) is

pub first_as : (o : Terminology) (count : ℕ) (clashes clashes' : List (Option RoleClash)) (level level' : List Role) → clashes' ≡ clashes → level' ≡ level → IsFirstLevel o count clashes level → IsFirstLevel o count clashes' level'
first_as o count clashes clashes' level level' e f is = subst (λ (x : List (Option RoleClash) × List Role). IsFirstLevel o count x.0 x.1) (λ j. (sym e j, sym f j)) is
