-- The lines of small bases with one concept A, one role r, and a in A.
use Rattle.std.proofs.Common.{◌≡◌, ◌⊎◌, ℕ, zero, suc, inl, inr, Bool, true, false, List, [], ◌∷◌, ◌++◌, Contains, Some, slice_get, refl, sym, ◌∙◌, ap, subst, codes, arith, eq-eqb, true≢false}
use Rattle.std.specs.Fmt.{decimal}
use Rattle.std.specs.List.{list_all}
use Rattle.std.specs.List.Sorted.{IsStrictlySortedBy}
use Rattle.std.proofs.Math.Dec.{eqb}
use Rattle.std.proofs.lemmas.Fmt.{decimal_digit}
use Rattle.dl_base.specs.Completion.{Node, Individual, WitnessOf, IsNode, IsLive, first, next, IndividualPoints, RolePoints, NodePoints, DerivedBehind, DerivedAtNode, RoleLeads}
use Rattle.dl_base.specs.Derivation.{HeldBehind, inverse, leaf, node, none, each}
use Rattle.dl_base.specs.Laws.{implies, successors, only_a}
use Rattle.dl_base.specs.Ontology.{Terminology}
use Rattle.dl_base.specs.Rows.{IsIndividual, Names, Held, row_of}
use Rattle.dl_base.specs.Sets.{role_place}
use Rattle.dl_base.specs.Unfolding.{Named, DerivedAt}
use Rattle.dl_base.specs.declared.axiom.NamedRole.{NamedRole}
use Rattle.dl_base.specs.declared.concept.Basic.{Basic}
use Rattle.dl_base.specs.declared.concept.Basic.TheVariants as basic
use Rattle.dl_base.specs.declared.concept.Head.TheVariants as head
use Rattle.dl_base.specs.declared.concept.Inclusion.{Inclusion}
use Rattle.dl_base.specs.declared.concept.Role.{Role}
use Rattle.dl_base.specs.declared.row.NamedRow.{NamedRow}
use Rattle.dl_base.specs.declared.row.NamedRow.TheVariants as row
use Rattle.dl_base.proofs.Examples.{only_item, first_item}
use Rattle.dl_base.proofs.PlaceLemmas.{some_same}
use Rattle.dl_base.proofs.RisingLemmas.{contains_cases, all_contains}
use Rattle.dl_base.proofs.SmallOntologies.{among, derived_among, respects}
use Rattle.reply_text.specs.ReplyText.{behind_spaces}
use Rattle.table_report.specs.Laws.{LinesOfSuccessor, LinesBothWays, both_ways}
use Rattle.table_report.specs.TableLines.{Member, NamedIndividual, WitnessBy, Entry, WitnessEntry, ConceptEntry, RoleEntry, entry_cmp, role_by_name, node_member, IsLiveAt, IsInConcept, AreLinked, HoldsEntry}

-- ---- what the rows say

no_role : (p a b : List ℕ) → Contains only_a (row.Role p a b) → ⊥
no_role p a b there = let e = only_item (row.Concept (codes "A") (codes "a")) (row.Role p a b) there in cc

only_individual : (a : List ℕ) → IsIndividual only_a a → a ≡ codes "a"
only_individual a (x, there, named) = by x (only_item (row.Concept (codes "A") (codes "a")) x there) named
  where
    by : (x : NamedRow) → x ≡ row.Concept (codes "A") (codes "a") → Names a x → a ≡ codes "a"
    by (row.Concept c b) is e = let same : b ≡ codes "a" = cc in e ∙ same
    by (row.Role p b d) is e = absurd cc

a_there : IsIndividual only_a (codes "a")
a_there = (row.Concept (codes "A") (codes "a"), first_item _ [], refl)

only_name : (name : List ℕ) (k : ℕ) (other : List ℕ) → slice_get (name ∷ []) k ≡ Some other → (k ≡ 0) × (other ≡ name)
only_name name zero other is = (refl, sym (some_same is))
only_name name (suc k) other is = absurd cc

same_exists : (s t : Role) → basic.Exists s ≡ basic.Exists t → s ≡ t
same_exists s t e = cc

abbrev ones : Role → ℕ
ones s = 1

abbrev named_r : Bool → NamedRole
named_r inverse = record { name = codes "r"; inverse = inverse }

abbrev role_r : Bool → Role
role_r inverse = record { name = 0; inverse = inverse }

-- the ontology with these inclusions
abbrev with_inclusions : List Inclusion → Terminology
with_inclusions inclusions = record { concepts = codes "A" ∷ []; roles = codes "r" ∷ []; inclusions = inclusions }

-- ---- what is derived, where A stands in a closed list, and behind a role nothing follows

module _ (inclusions : List Inclusion) (bs : List Basic) (closed : list_all (respects (among bs)) inclusions ≡ true) (has : among bs (basic.Concept 0) ≡ true)
    (closed_behind : (s : Role) → list_all (respects (among (basic.Exists (inverse s) ∷ []))) inclusions ≡ true) where
  held_from_a : (a : List ℕ) (b : Basic) → Held (with_inclusions inclusions) only_a a b → among bs b ≡ true
  held_from_a a (basic.Concept k) h = subst (λ (n : ℕ). among bs (basic.Concept n) ≡ true) (sym (only_name (codes "A") k h.name h.named).0) has
  held_from_a a (basic.Exists s) (b, h) = absurd (no_row s.inverse h.there)
    where
      no_row : (turned : Bool) → Contains only_a (row_of h.name turned a b) → ⊥
      no_row true there = no_role h.name b a there
      no_row false there = no_role h.name a b there

  at_a : (a : List ℕ) (b : Basic) → DerivedAt (with_inclusions inclusions) only_a (Named a) b → Contains bs b
  at_a a b derived = derived_among inclusions (Held (with_inclusions inclusions) only_a a) bs closed (held_from_a a) b derived

  behind : (s : Role) (b : Basic) → DerivedBehind (with_inclusions inclusions) s b → b ≡ basic.Exists (inverse s)
  behind s b derived = only_item (basic.Exists (inverse s)) b (derived_among inclusions (HeldBehind s) (basic.Exists (inverse s) ∷ []) (closed_behind s) held b derived)
    where
      held : (d : Basic) → HeldBehind s d → among (basic.Exists (inverse s) ∷ []) d ≡ true
      held d is = let same : eqb (role_place (inverse s)) (role_place (inverse s)) ≡ true = eq-eqb (role_place (inverse s)) (role_place (inverse s)) refl in rw (is, same) refl

  no_step : (s t : Role) → RolePoints (with_inclusions inclusions) s t → ⊥
  no_step s t points = points.not_back (same_exists t (inverse s) (behind s (basic.Exists t) points.derived))

  pub only_live : (s : Role) → IsLive (with_inclusions inclusions) only_a s → Contains bs (basic.Exists s)
  only_live s (first a points) = at_a a (basic.Exists s) points.derived
  only_live s (next {s = t} live points) = absurd (no_step t s points)

  only_step : (x : Node) (s : Role) → NodePoints (with_inclusions inclusions) only_a x s → (x ≡ Individual (codes "a")) × Contains bs (basic.Exists s)
  only_step (Individual a) s points = (ap Individual (only_individual a points.individual), at_a a (basic.Exists s) points.derived)
  only_step (WitnessOf t) s points = absurd (no_step t s points.1)

  only_concept : (x : Node) → IsNode (with_inclusions inclusions) only_a x → DerivedAtNode (with_inclusions inclusions) only_a x (basic.Concept 0) → x ≡ Individual (codes "a")
  only_concept (Individual a) there derived = ap Individual (only_individual a there)
  only_concept (WitnessOf s) there derived = absurd (let e = behind s (basic.Concept 0) derived in cc)

  -- the members of a link, where the role of that direction is derived at a
  abbrev IsStep : Member → Member → Type 0
  IsStep x y = ((x ≡ NamedIndividual (codes "a")) × (y ≡ WitnessBy (named_r false)) × Contains bs (basic.Exists (role_r false)))
      ⊎ ((x ≡ WitnessBy (named_r true)) × (y ≡ NamedIndividual (codes "a")) × Contains bs (basic.Exists (role_r true)))

  member_is : (x y : Node) (m n : Member) → x ≡ y → node_member (with_inclusions inclusions) x ≡ Some m → node_member (with_inclusions inclusions) y ≡ Some n → m ≡ n
  member_is x y m n is at_x at_y = some_same (sym at_x ∙ (ap (node_member (with_inclusions inclusions)) is ∙ at_y))

  only_link : (x y : Node) (m n : Member) → node_member (with_inclusions inclusions) x ≡ Some m → node_member (with_inclusions inclusions) y ≡ Some n → RoleLeads (with_inclusions inclusions) only_a 0 x y → IsStep m n
  only_link x y m n at_x at_y (inl base) = absurd (no_role base.row.name base.from base.to base.row.there)
  only_link x y m n at_x at_y (inr (inl (is, points))) =
      let step = only_step x (role_r false) points in
      inl (member_is x (Individual (codes "a")) m (NamedIndividual (codes "a")) step.0 at_x refl, member_is y (WitnessOf (role_r false)) n (WitnessBy (named_r false)) is at_y refl, step.1)
  only_link x y m n at_x at_y (inr (inr (is, points))) =
      let step = only_step y (role_r true) points in
      inr (member_is x (WitnessOf (role_r true)) m (WitnessBy (named_r true)) is at_x refl, member_is y (Individual (codes "a")) n (NamedIndividual (codes "a")) step.0 at_y refl, step.1)

  -- ---- what may hold

  pub live_is : (s : NamedRole) (g : ℕ) → IsLiveAt (with_inclusions inclusions) only_a ones s g → (inverse : Bool) × (s ≡ named_r inverse) × (g ≡ 1) × Contains bs (basic.Exists (role_r inverse))
  live_is s g h = by h.role h.name (only_live h.role h.live)
    where
      by : (t : Role) → role_by_name (with_inclusions inclusions) t ≡ Some s → Contains bs (basic.Exists t) → (inverse : Bool) × (s ≡ named_r inverse) × (g ≡ 1) × Contains bs (basic.Exists (role_r inverse))
      by t name there = at t.name t.inverse name there
        where
          at : (k : ℕ) (inverse : Bool) → role_by_name (with_inclusions inclusions) (record { name = k; inverse = inverse }) ≡ Some s → Contains bs (basic.Exists (record { name = k; inverse = inverse }))
              → (inverse : Bool) × (s ≡ named_r inverse) × (g ≡ 1) × Contains bs (basic.Exists (role_r inverse))
          at zero inverse name there = (inverse, sym (some_same name), h.generation_is, there)
          at (suc k) inverse name there = absurd cc

  pub concept_is : (c : List ℕ) (m : Member) → IsInConcept (with_inclusions inclusions) only_a c m → ConceptEntry c m ≡ ConceptEntry (codes "A") (NamedIndividual (codes "a"))
  concept_is c m h =
      let name = only_name (codes "A") h.place c h.name in
      let at = only_concept h.node h.there (subst (λ (k : ℕ). DerivedAtNode (with_inclusions inclusions) only_a h.node (basic.Concept k)) name.0 h.derived) in
      let member = member_is h.node (Individual (codes "a")) m (NamedIndividual (codes "a")) at h.is refl in
      let c_is = name.1 in
      λ j. ConceptEntry (c_is j) (member j)

  pub link_is : (p : List ℕ) (x y : Member) → AreLinked (with_inclusions inclusions) only_a p x y
      → ((RoleEntry p x y ≡ RoleEntry (codes "r") (NamedIndividual (codes "a")) (WitnessBy (named_r false))) × Contains bs (basic.Exists (role_r false)))
      ⊎ ((RoleEntry p x y ≡ RoleEntry (codes "r") (WitnessBy (named_r true)) (NamedIndividual (codes "a"))) × Contains bs (basic.Exists (role_r true)))
  link_is p x y h =
      let name = only_name (codes "r") h.place p h.name in
      let p_is = name.1 in
      elim (only_link h.from h.to x y h.from_is h.to_is (subst (λ (k : ℕ). RoleLeads (with_inclusions inclusions) only_a k h.from h.to) name.0 h.leads)) [
        | inl (x_is, y_is, there) ↦ inl ((λ j. RoleEntry (p_is j) (x_is j) (y_is j)), there)
        | inr (x_is, y_is, there) ↦ inr ((λ j. RoleEntry (p_is j) (x_is j) (y_is j)), there)
      ]

-- ---- what does hold, where A has a successor by the role

module _ (inclusions : List Inclusion) (inverse : Bool) (says : Contains inclusions (implies (basic.Concept 0) (head.Basic (basic.Exists (role_r inverse))))) where
  a_points : IndividualPoints (with_inclusions inclusions) only_a (codes "a") (role_r inverse)
  a_points = record {
    individual = a_there;
    derived = node (implies (basic.Concept 0) (head.Basic (basic.Exists (role_r inverse)))) says refl (each (leaf (record { name = codes "A"; named = refl; there = first_item _ [] })) none);
    no_row = λ b h. no_row inverse h.name b h.there;
  }
    where
      no_row : (turned : Bool) (p b : List ℕ) → Contains only_a (row_of p turned (codes "a") b) → ⊥
      no_row true p b there = no_role p b (codes "a") there
      no_row false p b there = no_role p (codes "a") b there

  pub live_holds : HoldsEntry (with_inclusions inclusions) only_a ones (WitnessEntry (named_r inverse) 1)
  live_holds = record { role = role_r inverse; name = refl; live = first (codes "a") a_points; generation_is = refl }

pub concept_holds : (inclusions : List Inclusion) → HoldsEntry (with_inclusions inclusions) only_a ones (ConceptEntry (codes "A") (NamedIndividual (codes "a")))
concept_holds inclusions = record {
  place = 0;
  name = refl;
  node = Individual (codes "a");
  is = refl;
  there = a_there;
  derived = leaf (record { name = codes "A"; named = refl; there = first_item _ [] });
}

direct_holds : (inclusions : List Inclusion) → Contains inclusions (implies (basic.Concept 0) (head.Basic (basic.Exists (role_r false))))
    → HoldsEntry (with_inclusions inclusions) only_a ones (RoleEntry (codes "r") (NamedIndividual (codes "a")) (WitnessBy (named_r false)))
direct_holds inclusions says = record { place = 0; name = refl; from = Individual (codes "a"); to = WitnessOf (role_r false); from_is = refl; to_is = refl; leads = inr (inl (refl, a_points inclusions false says)) }

inverse_holds : (inclusions : List Inclusion) → Contains inclusions (implies (basic.Concept 0) (head.Basic (basic.Exists (role_r true))))
    → HoldsEntry (with_inclusions inclusions) only_a ones (RoleEntry (codes "r") (WitnessBy (named_r true)) (NamedIndividual (codes "a")))
inverse_holds inclusions says = record { place = 0; name = refl; from = WitnessOf (role_r true); to = Individual (codes "a"); from_is = refl; to_is = refl; leads = inr (inr (refl, a_points inclusions true says)) }

one : codes "1" ≡ decimal 1
one = sym (decimal_digit 1 (omega arith))

-- ---- a successor by r

abbrev direct : Basic
direct = basic.Exists (role_r false)

abbrev inverted : Basic
inverted = basic.Exists (role_r true)

not_inverted : Contains (basic.Concept 0 ∷ direct ∷ []) inverted → ⊥
not_inverted there = elim (contains_cases (basic.Concept 0) (direct ∷ []) inverted there) [
  | inl is ↦ cc
  | inr later ↦ true≢false (ap (λ (s : Role). s.inverse) (same_exists (role_r true) (role_r false) (only_item direct inverted later)))
]

abbrev three : List Entry
three = WitnessEntry (named_r false) 1 ∷ ConceptEntry (codes "A") (NamedIndividual (codes "a")) ∷ RoleEntry (codes "r") (NamedIndividual (codes "a")) (WitnessBy (named_r false)) ∷ []

one_way : (x : Entry) → HoldsEntry successors only_a ones x → Contains three x
one_way (WitnessEntry s g) h =
    let found = live_is successors.inclusions (basic.Concept 0 ∷ direct ∷ []) refl refl (λ s. refl) s g h in
    by found.0 found.1 found.2 found.3
  where
    by : (inverse : Bool) → s ≡ named_r inverse → g ≡ 1 → Contains (basic.Concept 0 ∷ direct ∷ []) (basic.Exists (role_r inverse)) → Contains three (WitnessEntry s g)
    by false s_is g_is there = subst (Contains three) (λ j. WitnessEntry (sym s_is j) (sym g_is j)) (0, omega arith, refl)
    by true s_is g_is there = absurd (not_inverted there)
one_way (ConceptEntry c m) h = subst (Contains three) (sym (concept_is successors.inclusions (basic.Concept 0 ∷ direct ∷ []) refl refl (λ s. refl) c m h)) (1, omega arith, refl)
one_way (RoleEntry p x y) h = elim (link_is successors.inclusions (basic.Concept 0 ∷ direct ∷ []) refl refl (λ s. refl) p x y h) [
  | inl (is, there) ↦ subst (Contains three) (sym is) (2, omega arith, refl)
  | inr (is, there) ↦ absurd (not_inverted there)
]

three_hold : (x : Entry) → Contains three x → HoldsEntry successors only_a ones x
three_hold x there = all_contains (HoldsEntry successors only_a ones) three x
    (live_holds successors.inclusions false (first_item _ []), (concept_holds successors.inclusions, (direct_holds successors.inclusions (first_item _ []), tt))) there

three_rise : IsStrictlySortedBy entry_cmp three
unfolding IsStrictlySortedBy
three_rise = ((refl, (refl, tt)), ((refl, tt), (tt, tt)))

pub lines_of_successor : LinesOfSuccessor
lines_of_successor = record {
  entries = three;
  rising = three_rise;
  each = λ x. (three_hold x, one_way x);
  texts = λ j. (codes "witness" ++ behind_spaces (codes "r" ∷ one j ∷ [])) ∷ codes "concept A a" ∷ codes "role r a *r" ∷ [];
}

-- ---- and one by its inverse

abbrev five : List Entry
five = WitnessEntry (named_r false) 1 ∷ WitnessEntry (named_r true) 1 ∷ ConceptEntry (codes "A") (NamedIndividual (codes "a"))
    ∷ RoleEntry (codes "r") (NamedIndividual (codes "a")) (WitnessBy (named_r false)) ∷ RoleEntry (codes "r") (WitnessBy (named_r true)) (NamedIndividual (codes "a")) ∷ []

two_ways : (x : Entry) → HoldsEntry both_ways only_a ones x → Contains five x
two_ways (WitnessEntry s g) h =
    let found = live_is both_ways.inclusions (basic.Concept 0 ∷ direct ∷ inverted ∷ []) refl refl (λ s. refl) s g h in
    by found.0 found.1 found.2
  where
    by : (inverse : Bool) → s ≡ named_r inverse → g ≡ 1 → Contains five (WitnessEntry s g)
    by false s_is g_is = subst (Contains five) (λ j. WitnessEntry (sym s_is j) (sym g_is j)) (0, omega arith, refl)
    by true s_is g_is = subst (Contains five) (λ j. WitnessEntry (sym s_is j) (sym g_is j)) (1, omega arith, refl)
two_ways (ConceptEntry c m) h = subst (Contains five) (sym (concept_is both_ways.inclusions (basic.Concept 0 ∷ direct ∷ inverted ∷ []) refl refl (λ s. refl) c m h)) (2, omega arith, refl)
two_ways (RoleEntry p x y) h = elim (link_is both_ways.inclusions (basic.Concept 0 ∷ direct ∷ inverted ∷ []) refl refl (λ s. refl) p x y h) [
  | inl (is, there) ↦ subst (Contains five) (sym is) (3, omega arith, refl)
  | inr (is, there) ↦ subst (Contains five) (sym is) (4, omega arith, refl)
]

five_hold : (x : Entry) → Contains five x → HoldsEntry both_ways only_a ones x
five_hold x there = all_contains (HoldsEntry both_ways only_a ones) five x (
  live_holds both_ways.inclusions false (0, omega arith, refl),
  (
    live_holds both_ways.inclusions true (1, omega arith, refl),
    (
      concept_holds both_ways.inclusions,
      (direct_holds both_ways.inclusions (0, omega arith, refl), (inverse_holds both_ways.inclusions (1, omega arith, refl), tt)),
    ),
  ),
) there

five_rise : IsStrictlySortedBy entry_cmp five
unfolding IsStrictlySortedBy
five_rise = ((refl, (refl, (refl, (refl, tt)))), ((refl, (refl, (refl, tt))), ((refl, (refl, tt)), ((refl, tt), (tt, tt)))))

pub lines_both_ways : LinesBothWays
lines_both_ways = record {
  entries = five;
  rising = five_rise;
  each = λ x. (five_hold x, two_ways x);
  texts = λ j. (codes "witness" ++ behind_spaces (codes "r" ∷ one j ∷ [])) ∷ (codes "witness" ++ behind_spaces (codes "Inv(r)" ∷ one j ∷ []))
      ∷ codes "concept A a" ∷ codes "role r a *r" ∷ codes "role r *Inv(r) a" ∷ [];
}
