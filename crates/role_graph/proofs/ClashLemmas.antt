-- Clashes whose lists begin with a role: each is of this role alone, or leads on to a clash that begins with another.
use Rattle.std.proofs.Common.{◌≡◌, ◌≢◌, ℕ, suc, ◌+◌, ◌<◌, ◌≤◌, ◌⊎◌, inl, inr, List, [], ◌∷◌, length, refl, sym, ◌∙◌, ap, subst, arith}
use Rattle.std.specs.Cmp.Lexicographic.{slice_cmp}
use Rattle.std.specs.declared.cmp.Ordering.{Ordering}
use Rattle.std.specs.declared.cmp.Ordering.TheVariants.{Less, Equal, Greater}
use Rattle.std.specs.Ordering.{nat_cmp, ordering_then}
use Rattle.std.proofs.lemmas.Bool.Decides.{nat_tests}
use Rattle.dl_base.specs.Clashes.{role_cmp}
use Rattle.dl_base.specs.Derivation.{Derives, HeldBehind, Violates}
use Rattle.dl_base.specs.Ontology.{Terminology}
use Rattle.dl_base.specs.Paths.{HeldAfter, ClashesAfter}
use Rattle.dl_base.specs.declared.concept.Basic.TheVariants as basic
use Rattle.dl_base.specs.declared.concept.Role.{Role}
use Rattle.role_graph.proofs.OrderLemmas.{role_itself}
use Rattle.role_graph.specs.declared.clash.RoleClash.{RoleClash}
use Rattle.role_graph.specs.FirstClashes.{IsClashFrom, clash_cmp}

pub nat_less : (m n : ℕ) → m < n → nat_cmp m n ≡ Less
nat_less m n h = grind (arith, nat_tests)

pub nat_equal : (m n : ℕ) → m ≡ n → nat_cmp m n ≡ Equal
nat_equal m n h = grind (arith, nat_tests)

pub nat_not_after : (m n : ℕ) → m ≤ n → nat_cmp m n ≢ Greater
nat_not_after m n h e = absurd (grind (arith, nat_tests))

pub nat_suc : (m n : ℕ) → nat_cmp (suc m) (suc n) ≡ nat_cmp m n
nat_suc m n = grind (arith, nat_tests)

-- a clash that has only the one role
pub record IsOwn (o : Terminology) (r : Role) (d : RoleClash) : Type 0 where
  pub path : d.path ≡ r ∷ []
  pub violates : Violates o.inclusions (HeldBehind r) d.inclusion

-- a clash that leads on to another
pub record IsLed (o : Terminology) (r : Role) (d : RoleClash) : Type 0 where
  pub next : Role
  pub derived : Derives o.inclusions (HeldBehind r) (basic.Exists next)
  pub clash : RoleClash
  pub from_next : IsClashFrom o next clash
  pub path : d.path ≡ r ∷ clash.path
  pub inclusion : d.inclusion ≡ clash.inclusion

pub own_or_led : (o : Terminology) (r : Role) (d : RoleClash) → IsClashFrom o r d → IsOwn o r d ⊎ IsLed o r d
own_or_led o r d from = by from.rest from.begins from.clashes
  where
    by : (rest : List Role) → d.path ≡ r ∷ rest → ClashesAfter o.inclusions (HeldBehind r) rest d.inclusion → IsOwn o r d ⊎ IsLed o r d
    by [] begins clashes = inl (record { path = begins; violates = clashes.violates })
    by (s ∷ rest) begins clashes = inr (record {
      next = s;
      derived = clashes.follows.0;
      clash = record { inclusion = d.inclusion; path = s ∷ rest };
      from_next = record { rest = rest; begins = refl; clashes = record { follows = clashes.follows.1; violates = clashes.violates } };
      path = begins;
      inclusion = refl;
    })

-- a clash with one more role in front
pub in_front : (o : Terminology) (r s : Role) (c d : RoleClash) → Derives o.inclusions (HeldBehind r) (basic.Exists s) → IsClashFrom o s c
    → d.path ≡ r ∷ c.path → d.inclusion ≡ c.inclusion → IsClashFrom o r d
in_front o r s c d derived from path_is inclusion_is = record {
  rest = s ∷ from.rest;
  begins = path_is ∙ ap (λ (p : List Role). r ∷ p) from.begins;
  clashes = subst (ClashesAfter o.inclusions (HeldBehind r) (s ∷ from.rest)) (sym inclusion_is) (record { follows = (derived, from.clashes.follows); violates = from.clashes.violates });
}

-- an own clash
pub own_from : (o : Terminology) (r : Role) (d : RoleClash) → d.path ≡ r ∷ [] → Violates o.inclusions (HeldBehind r) d.inclusion → IsClashFrom o r d
own_from o r d path_is violates = record { rest = []; begins = path_is; clashes = record { follows = tt; violates = violates } }

-- the same role in front of both doesn't change the order
pub front_cmp : (o : Terminology) (r : Role) (c d c' d' : RoleClash) → c.path ≡ r ∷ c'.path → c.inclusion ≡ c'.inclusion → d.path ≡ r ∷ d'.path → d.inclusion ≡ d'.inclusion
    → clash_cmp o c d ≡ clash_cmp o c' d'
front_cmp o r c d c' d' c_path c_inclusion d_path d_inclusion =
    let lengths : nat_cmp (length c.path) (length d.path) ≡ nat_cmp (length c'.path) (length d'.path) =
    (λ j. nat_cmp (length (c_path j)) (length (d_path j))) ∙ nat_suc (length c'.path) (length d'.path) in
    let lists : slice_cmp (role_cmp o) c.path d.path ≡ slice_cmp (role_cmp o) c'.path d'.path =
    (λ j. slice_cmp (role_cmp o) (c_path j) (d_path j)) ∙ ap (λ (x : Ordering). ordering_then x (slice_cmp (role_cmp o) c'.path d'.path)) (role_itself o r) in
    λ j. ordering_then (lengths j) (ordering_then (lists j) (nat_cmp (c_inclusion j) (d_inclusion j)))

-- a shorter list comes first
pub shorter_first : (o : Terminology) (c d : RoleClash) → length c.path < length d.path → clash_cmp o c d ≢ Greater
shorter_first o c d less greater =
    let is : clash_cmp o c d ≡ Less = ap (λ (x : Ordering). ordering_then x (ordering_then (slice_cmp (role_cmp o) c.path d.path) (nat_cmp c.inclusion d.inclusion))) (nat_less _ _ less) in
    absurd (let e : Less ≡ Greater = sym is ∙ greater in cc)

-- of lists that are as long, the one that begins with the lesser role comes first
pub lesser_first : (o : Terminology) (s t : Role) (c d : RoleClash) → IsClashFrom o s c → IsClashFrom o t d → length c.path ≡ length d.path → role_cmp o s t ≡ Less → clash_cmp o c d ≢ Greater
lesser_first o s t c d from_s from_t same less greater =
    let lists : slice_cmp (role_cmp o) c.path d.path ≡ Less =
    (λ j. slice_cmp (role_cmp o) (from_s.begins j) (from_t.begins j)) ∙ ap (λ (x : Ordering). ordering_then x (slice_cmp (role_cmp o) from_s.rest from_t.rest)) less in
    let lengths = nat_equal _ _ same in
    let is : clash_cmp o c d ≡ Less = λ j. ordering_then (lengths j) (ordering_then (lists j) (nat_cmp c.inclusion d.inclusion)) in
    absurd (let e : Less ≡ Greater = sym is ∙ greater in cc)

-- of two own clashes the one with the lesser inclusion comes first
pub own_first : (o : Terminology) (r : Role) (c d : RoleClash) → c.path ≡ r ∷ [] → d.path ≡ r ∷ [] → c.inclusion ≤ d.inclusion → clash_cmp o c d ≢ Greater
own_first o r c d c_path d_path least greater =
    let lengths : nat_cmp (length c.path) (length d.path) ≡ Equal = nat_equal _ _ (ap length c_path ∙ sym (ap length d_path)) in
    let lists : slice_cmp (role_cmp o) c.path d.path ≡ Equal =
    (λ j. slice_cmp (role_cmp o) (c_path j) (d_path j)) ∙ ap (λ (x : Ordering). ordering_then x (slice_cmp (role_cmp o) [] [])) (role_itself o r) in
    let is : clash_cmp o c d ≡ nat_cmp c.inclusion d.inclusion = λ j. ordering_then (lengths j) (ordering_then (lists j) (nat_cmp c.inclusion d.inclusion)) in
    nat_not_after _ _ least (sym is ∙ greater)
