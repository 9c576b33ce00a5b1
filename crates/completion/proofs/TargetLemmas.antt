-- The least individual to which a role leads by rows among individuals.
use Rattle.std.proofs.Common.{◌≡◌, ◌≢◌, ℕ, ◌<◌, ◌≤◌, ◌⊎◌, ◌↔◌, inl, inr, Bool, true, false, not, ◌&&◌, ◌||◌, List, map, Contains, Option, Some, None, refl, sym, ◌∙◌, ap, subst, arith}
use Rattle.std.specs.Prelude.{nat_lt, nat_eq}
use Rattle.std.specs.List.Sorted.{IsStrictlySortedBy}
use Rattle.std.specs.declared.cmp.Ordering.{Ordering}
use Rattle.std.specs.declared.cmp.Ordering.TheVariants.{Greater}
use Rattle.std.proofs.lemmas.Bool.Decides.{nat_tests}
use Rattle.dl_base.specs.Tables.{IsAbove, IsLeastAbove, elem_cmp}
use Rattle.dl_base.specs.declared.concept.Role.{Role}
use Rattle.dl_base.specs.declared.element.Elem.{Elem}
use Rattle.dl_base.specs.declared.element.Elem.TheVariants as elem
use Rattle.dl_base.proofs.PlaceLemmas.{map_contains, map_from}
use Rattle.completion.specs.EdgeLists.{AreBothWays, IsReadFrom, IsTarget, edge_cmp, edge_of, is_above, target_passed, turned}
use Rattle.completion.specs.Members.{IsFirstPast}
use Rattle.completion.specs.declared.edges.Edge.{Edge}
use Rattle.completion.proofs.OrderLemmas.{edge_upto, nat_upto}
use Rattle.completion.proofs.SearchLemmas.{passed_at}

above_from : (after : Option Elem) (n : ℕ) → IsAbove after (elem.Named n) → is_above after n ≡ true
above_from None n h = refl
above_from (Some (elem.Named a)) n h = grind (arith, nat_tests)
above_from (Some (elem.Shared w)) n h = absurd cc

above_to : (after : Option Elem) (n : ℕ) → is_above after n ≡ true → IsAbove after (elem.Named n)
above_to None n h = tt
above_to (Some (elem.Named a)) n h = grind (arith, nat_tests)
above_to (Some (elem.Shared w)) n h = absurd cc

-- the rows of a key stand together, the passed ones of these first, and then the others in the order of their numbers
pub record StandTogether {X : Type 0} (cmp : X → X → Ordering) (Key : X → Type 0) (number : X → ℕ) (after : Option Elem) (passed : X → Bool) : Type 0 where
  pub stays : (x : X) → Key x → is_above after (number x) ≡ true → passed x ≡ false
  pub goes : (x : X) → Key x → passed x ≡ false → is_above after (number x) ≡ true
  pub between : (x y : X) → passed x ≡ false → Key y → cmp x y ≢ Greater → Key x
  pub ordered : (x y : X) → Key x → Key y → cmp x y ≢ Greater → number x ≤ number y

-- the elements are the individuals with the numbers of a key's rows
pub record AreOf {X : Type 0} (xs : List X) (Key : X → Type 0) (number : X → ℕ) (E : Elem → Type 0) : Type 0 where
  pub each : (x : X) → Contains xs x → Key x → E (elem.Named (number x))
  pub only : (e : Elem) → E e → (x : X) × Contains xs x × Key x × (e ≡ elem.Named (number x))

module _ {X : Type 0} (cmp : X → X → Ordering) (Key : X → Type 0) (number : X → ℕ) (after : Option Elem) (passed : X → Bool) (leads : StandTogether cmp Key number after passed)
    (xs : List X) (E : Elem → Type 0) (are : AreOf xs Key number E) where
  off : (e : Elem) → E e → IsAbove after e → (x : X) × Contains xs x × Key x × (e ≡ elem.Named (number x)) × (passed x ≡ false)
  off e within above =
      let found : (x : X) × Contains xs x × Key x × (e ≡ elem.Named (number x)) = are.only e within in
      (found.0, found.1, found.2, found.3, leads.stays found.0 found.2 (above_from after _ (subst (IsAbove after) found.3 above)))

  pub least_end : IsFirstPast cmp passed xs None → IsLeastAbove E after None
  least_end all e within above = let y = off e within above in let on : passed y.0 ≡ true = all y.0 y.1 in let not_on = y.4 in cc

  pub least_other : (x : X) → IsFirstPast cmp passed xs (Some x) → (Key x → ⊥) → IsLeastAbove E after None
  least_other x first other e within above = let y = off e within above in other (leads.between x y.0 first.1 y.2 (first.2 y.0 y.1 y.4))

  pub least_here : (x : X) → IsFirstPast cmp passed xs (Some x) → Key x → IsLeastAbove E after (Some (elem.Named (number x)))
  least_here x first key = (
    are.each x first.0 key,
    above_to after _ (leads.goes x key first.1),
    λ f within above. let y = off f within above in
        subst (λ (g : Elem). elem_cmp (elem.Named (number x)) g ≢ Greater) (sym y.3) (nat_upto _ _ (leads.ordered x y.0 key y.2 (first.2 y.0 y.1 y.4))),
  )

  -- from what a search answers
  pub least_none : (r : Option X) (q : Option Elem) → IsFirstPast cmp passed xs r → r ≡ None → q ≡ None → IsLeastAbove E after q
  least_none r q first is none = subst (IsLeastAbove E after) (sym none) (least_end (subst (IsFirstPast cmp passed xs) is first))

module _ (c : ℕ) (after : Option Elem) where
  lower : (n : ℕ) (b : Bool) → (nat_lt n c || (nat_eq n c && b)) ≡ false → c ≤ n
  lower n b h = grind (arith, nat_tests)

  flips : (b : Bool) → not b ≡ false → b ≡ true
  flips true h = refl
  flips false h = absurd cc

  pub target_leads : (a : ℕ) → StandTogether edge_cmp (λ x. (x.role ≡ c) × (x.from ≡ a)) (λ x. x.to) after (target_passed c a after)
  target_leads a = record {
    stays = λ x key above. passed_at x.role c _ key.0 ∙ (passed_at x.from a _ key.1 ∙ ap not above);
    goes = λ x key off. flips _ (sym (passed_at x.from a _ key.1) ∙ (sym (passed_at x.role c _ key.0) ∙ off));
    between = λ x y off key upto. at_both x y off (lower x.role _ off) key (edge_upto x y upto);
    ordered = λ x y k l upto. by_to x y k l (edge_upto x y upto);
  }
    where
      lower_from : (n : ℕ) (b : Bool) → (nat_lt n a || (nat_eq n a && b)) ≡ false → a ≤ n
      lower_from n b h = grind (arith, nat_tests)

      at_both : (x y : Edge) → target_passed c a after x ≡ false → c ≤ x.role → (y.role ≡ c) × (y.from ≡ a)
          → ((x.role < y.role) ⊎ ((x.role ≡ y.role) × ((x.from < y.from) ⊎ ((x.from ≡ y.from) × (x.to ≤ y.to))))) → (x.role ≡ c) × (x.from ≡ a)
      at_both x y off low key (inl l) = absurd (omega (arith, key.0))
      at_both x y off low key (inr (same, inl l)) =
          let role : x.role ≡ c = same ∙ key.0 in
          let high : a ≤ x.from = lower_from x.from _ (sym (passed_at x.role c _ role) ∙ off) in
          absurd (omega (arith, key.1))
      at_both x y off low key (inr (same, inr l)) = (same ∙ key.0, l.0 ∙ key.1)

      by_to : (x y : Edge) → (x.role ≡ c) × (x.from ≡ a) → (y.role ≡ c) × (y.from ≡ a)
          → ((x.role < y.role) ⊎ ((x.role ≡ y.role) × ((x.from < y.from) ⊎ ((x.from ≡ y.from) × (x.to ≤ y.to))))) → x.to ≤ y.to
      by_to x y k l (inl less) = absurd (omega (arith, k.0, l.0))
      by_to x y k l (inr (same, inl less)) = absurd (omega (arith, k.1, l.1))
      by_to x y k l (inr (same, inr less)) = less.1

-- ---- both ways

module _ (edges list : List Edge) (r : Role) (n : ℕ) (read : IsReadFrom r.inverse edges list) where
  pub targets : AreOf list (λ (x : Edge). (x.role ≡ r.name) × (x.from ≡ n)) (λ (x : Edge). x.to) (IsTarget edges r n)
  targets = record {
    each = λ x there key.
        let at_role = key.0 in
        let at_from = key.1 in
        let is : edge_of r.inverse x.role x.from x.to ≡ edge_of r.inverse r.name n x.to = λ j. edge_of r.inverse (at_role j) (at_from j) x.to in
        (x.to, refl, subst (Contains edges) is ((read.each x).0 there));
    only = λ e found. (record { role = r.name; from = n; to = found.0 }, (read.each (record { role = r.name; from = n; to = found.0 })).1 found.2, (refl, refl), found.1);
  }

module _ (forth back : List Edge) (both : AreBothWays forth back) where
  pub read_forth : IsReadFrom false forth forth
  read_forth = record { rises = both.forth_rises; each = λ x. (λ c. c, λ c. c) }

  pub read_back : IsReadFrom true forth back
  read_back = record { rises = both.back_rises; each = λ x. ((both.same x).0, (both.same x).1) }

-- rows that were turned and put in order
pub both_ways : (rows forth back : List Edge) → IsStrictlySortedBy edge_cmp forth → IsStrictlySortedBy edge_cmp back → ((x : Edge) → Contains forth x ↔ Contains rows x) → ((x : Edge) → Contains back x ↔ Contains (map turned rows) x) → AreBothWays forth back
both_ways rows forth back forth_rises back_rises forth_same back_same = record {
  forth_rises = forth_rises;
  back_rises = back_rises;
  same = λ x. (
    λ c. (let from = map_from turned rows x ((back_same x).0 c) in (forth_same (turned x)).1 (subst (Contains rows) (sym (ap turned from.2)) from.1)),
    λ c. (back_same x).1 (map_contains turned rows (turned x) ((forth_same (turned x)).0 c)),
  );
}
