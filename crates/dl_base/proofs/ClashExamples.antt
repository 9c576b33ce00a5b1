-- A small base with many clashes.
use Rattle.std.proofs.Common.{◌≡◌, ◌≢◌, ℕ, zero, suc, ◌<◌, ◌≤◌, ◌⊎◌, inl, inr, Bool, true, false, List, [], ◌∷◌, ◌++◌, length, Some, slice_get, Contains, refl, sym, ◌∙◌, ap, subst, codes, arith, true≢false, length-append}
use Rattle.std.specs.Str.{bytes_eq}
use Rattle.std.specs.declared.cmp.Ordering.{Ordering}
use Rattle.std.specs.declared.cmp.Ordering.TheVariants.{Less, Equal, Greater}
use Rattle.std.specs.Ordering.{ordering_then, nat_cmp}
use Rattle.std.proofs.lemmas.Bool.Decides.{nat_tests}
use Rattle.dl_base.specs.Derivation.{Derives, Violates, inverse, leaf, node, none, each}
use Rattle.dl_base.specs.Rows.{IsIndividual, Names, Held, name_cmp, row_of}
use Rattle.dl_base.specs.Unfolding.{Element, Named, Next, Exists, Start, DerivedAt}
use Rattle.dl_base.specs.Clashes.{IsClash, individual_of, path_of, place_cmp}
use Rattle.dl_base.specs.Laws.{direct_at, inverted_at, implies, clashing, a_and_b, first_of_all, ClashesInOrder}
use Rattle.dl_base.specs.declared.concept.Role.{Role}
use Rattle.dl_base.specs.declared.concept.Basic.{Basic}
use Rattle.dl_base.specs.declared.concept.Basic.TheVariants as basic
use Rattle.dl_base.specs.declared.concept.Head.TheVariants as head
use Rattle.dl_base.specs.declared.row.NamedRow.{NamedRow}
use Rattle.dl_base.specs.declared.row.NamedRow.TheVariants as row
use Rattle.dl_base.proofs.RisingLemmas.{contains_cases}
use Rattle.dl_base.proofs.Examples.{only_item}
use Rattle.dl_base.proofs.RoleLemmas.{same_role}
use Rattle.dl_base.proofs.SmallOntologies.{among, derived_among, violated_behind, none_violated}

-- ---- the two individuals

pub differ : (a b : List ℕ) → bytes_eq a a ≡ true → bytes_eq a b ≡ false → a ≡ b → ⊥
differ a b same other e = true≢false (sym same ∙ ap (bytes_eq a) e ∙ other)

two_rows : (x : NamedRow) → Contains a_and_b x → (x ≡ row.Concept (codes "A") (codes "a")) ⊎ (x ≡ row.Concept (codes "B") (codes "b"))
two_rows x there = elim (contains_cases (row.Concept (codes "A") (codes "a")) (row.Concept (codes "B") (codes "b") ∷ []) x there) [
  | inl e ↦ inl e
  | inr d ↦ inr (only_item (row.Concept (codes "B") (codes "b")) x d)
]

a_or_b : (x : List ℕ) → IsIndividual a_and_b x → (x ≡ codes "a") ⊎ (x ≡ codes "b")
a_or_b x (r, there, names) = elim (two_rows r there) [
  | inl e ↦ inl (subst (Names x) e names)
  | inr e ↦ inr (subst (Names x) e names)
]

begins : (e : Element) → Exists clashing a_and_b e → IsIndividual a_and_b (individual_of e)
begins (Named a) exists = exists
begins (Next e r) exists = begins e exists.0

-- ---- what is derived at a, and behind each role

at_a : List Basic
at_a = basic.Concept 0 ∷ basic.Exists (direct_at 2) ∷ basic.Exists (direct_at 1) ∷ []

behind_p : List Basic
behind_p = basic.Exists (inverted_at 2) ∷ basic.Exists (direct_at 0) ∷ basic.Exists (direct_at 2) ∷ []

behind_q : List Basic
behind_q = basic.Exists (inverted_at 1) ∷ basic.Exists (direct_at 3) ∷ []

first_concept : (c : ℕ) → slice_get (codes "A" ∷ codes "B" ∷ []) c ≡ Some (codes "A") → c ≡ 0
first_concept zero e = refl
first_concept (suc zero) e = absurd (differ (codes "B") (codes "A") refl refl (some_same e))
  where
    some_same : {x y : List ℕ} → Some x ≡ Some y → x ≡ y
    some_same f = cc
first_concept (suc (suc c)) e = absurd cc

no_role_row : (name : List ℕ) (turned : Bool) (x y : List ℕ) → Contains a_and_b (row_of name turned x y) → ⊥
no_role_row name true x y there = elim (two_rows (row.Role name y x) there) [ inl e ↦ absurd cc | inr e ↦ absurd cc ]
no_role_row name false x y there = elim (two_rows (row.Role name x y) there) [ inl e ↦ absurd cc | inr e ↦ absurd cc ]

held_at_a : (b : Basic) → Held clashing a_and_b (codes "a") b → among at_a b ≡ true
unfolding at_a
held_at_a (basic.Concept c) h = elim (two_rows (row.Concept h.name (codes "a")) h.there) [
  | inl e ↦ (
      let name : h.name ≡ codes "A" = first_name h.name (codes "a") (codes "A") (codes "a") e in
      let place : c ≡ 0 = first_concept c (h.named ∙ ap Some name) in
      ap (λ n. among (basic.Concept 0 ∷ basic.Exists (direct_at 2) ∷ basic.Exists (direct_at 1) ∷ []) (basic.Concept n)) place)
  | inr e ↦ absurd (differ (codes "a") (codes "b") refl refl (second_name h.name (codes "a") (codes "B") (codes "b") e))
]
  where
    first_name : (c a d b : List ℕ) → row.Concept c a ≡ row.Concept d b → c ≡ d
    first_name c a d b e = cc

    second_name : (c a d b : List ℕ) → row.Concept c a ≡ row.Concept d b → a ≡ b
    second_name c a d b e = cc
held_at_a (basic.Exists r) h = absurd (no_role_row h.1.name r.inverse (codes "a") h.0 h.1.there)

-- a start of one concept that is in the list
alone : (bs : List Basic) (c : Basic) → among bs c ≡ true → (b : Basic) → b ≡ c → among bs b ≡ true
alone bs c there b e = ap (among bs) e ∙ there

p_or_q : (r : Role) → DerivedAt clashing a_and_b (Named (codes "a")) (basic.Exists r) → (r ≡ direct_at 2) ⊎ (r ≡ direct_at 1)
unfolding at_a
p_or_q r d = by (derived_among clashing.inclusions (Held clashing a_and_b (codes "a")) at_a refl held_at_a (basic.Exists r) d)
  where
    later : Contains (basic.Exists (direct_at 2) ∷ basic.Exists (direct_at 1) ∷ []) (basic.Exists r) → (r ≡ direct_at 2) ⊎ (r ≡ direct_at 1)
    later c = elim (contains_cases (basic.Exists (direct_at 2)) (basic.Exists (direct_at 1) ∷ []) (basic.Exists r) c) [
      | inl e ↦ inl (same_role r (direct_at 2) e)
      | inr d ↦ inr (same_role r (direct_at 1) (only_item (basic.Exists (direct_at 1)) (basic.Exists r) d))
    ]

    by : Contains (basic.Concept 0 ∷ basic.Exists (direct_at 2) ∷ basic.Exists (direct_at 1) ∷ []) (basic.Exists r) → (r ≡ direct_at 2) ⊎ (r ≡ direct_at 1)
    by c = elim (contains_cases (basic.Concept 0) (basic.Exists (direct_at 2) ∷ basic.Exists (direct_at 1) ∷ []) (basic.Exists r) c) [
      | inl e ↦ absurd cc
      | inr d ↦ later d
    ]

behind_p_is : (r : Role) → Derives clashing.inclusions (λ b. b ≡ basic.Exists (inverted_at 2)) (basic.Exists r) → (r ≡ inverted_at 2) ⊎ ((r ≡ direct_at 0) ⊎ (r ≡ direct_at 2))
unfolding behind_p
behind_p_is r d = by (derived_among clashing.inclusions (λ b. b ≡ basic.Exists (inverted_at 2)) behind_p refl (alone behind_p (basic.Exists (inverted_at 2)) refl) (basic.Exists r) d)
  where
    later : Contains (basic.Exists (direct_at 0) ∷ basic.Exists (direct_at 2) ∷ []) (basic.Exists r) → (r ≡ direct_at 0) ⊎ (r ≡ direct_at 2)
    later c = elim (contains_cases (basic.Exists (direct_at 0)) (basic.Exists (direct_at 2) ∷ []) (basic.Exists r) c) [
      | inl e ↦ inl (same_role r (direct_at 0) e)
      | inr d ↦ inr (same_role r (direct_at 2) (only_item (basic.Exists (direct_at 2)) (basic.Exists r) d))
    ]

    by : Contains (basic.Exists (inverted_at 2) ∷ basic.Exists (direct_at 0) ∷ basic.Exists (direct_at 2) ∷ []) (basic.Exists r) → (r ≡ inverted_at 2) ⊎ ((r ≡ direct_at 0) ⊎ (r ≡ direct_at 2))
    by c = elim (contains_cases (basic.Exists (inverted_at 2)) (basic.Exists (direct_at 0) ∷ basic.Exists (direct_at 2) ∷ []) (basic.Exists r) c) [
      | inl e ↦ inl (same_role r (inverted_at 2) e)
      | inr d ↦ inr (later d)
    ]

-- ---- which inclusions are violated

fine_at_a : (k : ℕ) → Violates clashing.inclusions (Held clashing a_and_b (codes "a")) k → ⊥
unfolding at_a
fine_at_a k v = none_violated clashing.inclusions (Held clashing a_and_b (codes "a")) at_a refl held_at_a k refl v

fine_behind_p : (k : ℕ) → Violates clashing.inclusions (λ b. b ≡ basic.Exists (inverted_at 2)) k → ⊥
unfolding behind_p
fine_behind_p k v = none_violated clashing.inclusions (λ b. b ≡ basic.Exists (inverted_at 2)) behind_p refl (alone behind_p (basic.Exists (inverted_at 2)) refl) k refl v

fine_behind_q : (k : ℕ) → Violates clashing.inclusions (λ b. b ≡ basic.Exists (inverted_at 1)) k → ⊥
unfolding behind_q
fine_behind_q k v = none_violated clashing.inclusions (λ b. b ≡ basic.Exists (inverted_at 1)) behind_q refl (alone behind_q (basic.Exists (inverted_at 1)) refl) k refl v

fine_back : (k : ℕ) → Violates clashing.inclusions (λ b. b ≡ basic.Exists (direct_at 2)) k → ⊥
fine_back k v = none_violated clashing.inclusions (λ b. b ≡ basic.Exists (direct_at 2)) (basic.Exists (direct_at 2) ∷ []) refl (alone (basic.Exists (direct_at 2) ∷ []) (basic.Exists (direct_at 2)) refl) k refl v

by_seven : (k : ℕ) → Violates clashing.inclusions (λ b. b ≡ basic.Exists (inverted_at 0)) k → 6 < k
by_seven k v = violated_behind clashing.inclusions (λ b. b ≡ basic.Exists (inverted_at 0)) (basic.Exists (inverted_at 0) ∷ []) refl (alone (basic.Exists (inverted_at 0) ∷ []) (basic.Exists (inverted_at 0)) refl) 6 k refl v

-- ---- no clash is before it

abbrev NotBefore : Element → ℕ → Type 0
NotBefore e k = place_cmp clashing first_of_all (record { element = e; inclusion = k }) ≢ Greater

then_less : (r s : Ordering) → r ≡ Less → ordering_then r s ≢ Greater
then_less Less s e g = cc
then_less Equal s e g = cc
then_less Greater s e g = cc

then_behind : (r s : Ordering) → r ≡ Equal → s ≢ Greater → ordering_then r s ≢ Greater
then_behind Less s e f g = cc
then_behind Equal s e f g = f g
then_behind Greater s e f g = cc

smaller : (m n : ℕ) → m < n → nat_cmp m n ≡ Less
smaller m n h = grind (arith, nat_tests)

no_greater : (m n : ℕ) → m ≤ n → nat_cmp m n ≢ Greater
no_greater m n h e = grind (arith, nat_tests)

at_b : (e : Element) (k : ℕ) → individual_of e ≡ codes "b" → NotBefore e k
at_b e k is = then_less _ _ (ap (name_cmp (codes "a")) is)

longer : (e : Element) (k : ℕ) → individual_of e ≡ codes "a" → 2 < length (path_of e) → NotBefore e k
longer e k is long = then_behind _ _ (ap (name_cmp (codes "a")) is) (then_less _ _ (smaller 2 (length (path_of e)) long))

two_more : (xs : List Role) (x y z : Role) → 2 < length (((xs ++ x ∷ []) ++ y ∷ []) ++ z ∷ [])
two_more xs x y z = rw (length-append, length-append, length-append) (omega arith)

by_q : (k : ℕ) (r : Role) → NotBefore (Next (Next (Named (codes "a")) (direct_at 1)) r) k
by_q k r g = cc

by_p_s : (k : ℕ) → 6 < k → NotBefore (Next (Next (Named (codes "a")) (direct_at 2)) (direct_at 0)) k
by_p_s k past = no_greater 7 k (omega arith)

by_p : (r : Role) (k : ℕ) → Derives clashing.inclusions (λ b. b ≡ basic.Exists (inverted_at 2)) (basic.Exists r) → Violates clashing.inclusions (λ b. b ≡ basic.Exists (inverse r)) k
    → NotBefore (Next (Next (Named (codes "a")) (direct_at 2)) r) k
by_p r k d v = elim (behind_p_is r d) [
  | inl e ↦ absurd (fine_back k (subst (λ (s : Role). Violates clashing.inclusions (λ b. b ≡ basic.Exists (inverse s)) k) e v))
  | inr other ↦ elim other [
    | inl e ↦ subst (λ (s : Role). NotBefore (Next (Next (Named (codes "a")) (direct_at 2)) s) k) (sym e)
        (by_p_s k (by_seven k (subst (λ (s : Role). Violates clashing.inclusions (λ b. b ≡ basic.Exists (inverse s)) k) e v)))
    | inr e ↦ absurd (fine_behind_p k (subst (λ (s : Role). Violates clashing.inclusions (λ b. b ≡ basic.Exists (inverse s)) k) e v))
  ]
]

two_roles : (r s : Role) (k : ℕ) → (r ≡ direct_at 2) ⊎ (r ≡ direct_at 1) → Derives clashing.inclusions (λ b. b ≡ basic.Exists (inverse r)) (basic.Exists s)
    → Violates clashing.inclusions (λ b. b ≡ basic.Exists (inverse s)) k → NotBefore (Next (Next (Named (codes "a")) r) s) k
two_roles r s k (inl e) d v = subst (λ (x : Role). NotBefore (Next (Next (Named (codes "a")) x) s) k) (sym e)
    (by_p s k (subst (λ (x : Role). Derives clashing.inclusions (λ b. b ≡ basic.Exists (inverse x)) (basic.Exists s)) e d) v)
two_roles r s k (inr e) d v = subst (λ (x : Role). NotBefore (Next (Next (Named (codes "a")) x) s) k) (sym e) (by_q k s)

one_role : (r : Role) (k : ℕ) → (r ≡ direct_at 2) ⊎ (r ≡ direct_at 1) → Violates clashing.inclusions (λ b. b ≡ basic.Exists (inverse r)) k → ⊥
one_role r k (inl e) v = fine_behind_p k (subst (λ (x : Role). Violates clashing.inclusions (λ b. b ≡ basic.Exists (inverse x)) k) e v)
one_role r k (inr e) v = fine_behind_q k (subst (λ (x : Role). Violates clashing.inclusions (λ b. b ≡ basic.Exists (inverse x)) k) e v)

derived_at : (x : List ℕ) (b : Basic) → x ≡ codes "a" → DerivedAt clashing a_and_b (Named x) b → DerivedAt clashing a_and_b (Named (codes "a")) b
derived_at x b is d = subst (λ (y : List ℕ). DerivedAt clashing a_and_b (Named y) b) is d

from_a : (e : Element) (k : ℕ) → individual_of e ≡ codes "a" → Exists clashing a_and_b e → Violates clashing.inclusions (Start clashing a_and_b e) k → NotBefore e k
from_a (Named x) k is exists v = absurd (fine_at_a k (subst (λ (y : List ℕ). Violates clashing.inclusions (Held clashing a_and_b y) k) is v))
from_a (Next (Named x) r) k is exists v = absurd (one_role r k (p_or_q r (derived_at x (basic.Exists r) is exists.1)) v)
from_a (Next (Next (Named x) r) s) k is exists v =
    subst (λ (y : List ℕ). NotBefore (Next (Next (Named y) r) s) k) (sym is)
    (two_roles r s k (p_or_q r (derived_at x (basic.Exists r) is exists.0.1)) exists.1 v)
from_a (Next (Next (Next e r) s) t) k is exists v = longer (Next (Next (Next e r) s) t) k is (two_more (path_of e) r s t)

not_before : (e : Element) (k : ℕ) → Exists clashing a_and_b e → Violates clashing.inclusions (Start clashing a_and_b e) k → NotBefore e k
not_before e k exists v = elim (a_or_b (individual_of e) (begins e exists)) [
  | inl is ↦ from_a e k is exists v
  | inr is ↦ at_b e k is
]

-- ---- and it is one

first_is_clash : IsClash clashing a_and_b first_of_all
first_is_clash = record {
  exists = (((row.Concept (codes "A") (codes "a"), (0, omega arith, refl), refl), p_derived), s_derived);
  violates = record { before = 6; number = refl; inclusion = implies (basic.Exists (inverted_at 0)) head.Nothing; at = refl; nothing = refl; body = each (leaf refl) none };
}
  where
    p_derived : DerivedAt clashing a_and_b (Named (codes "a")) (basic.Exists (direct_at 2))
    p_derived = node (implies (basic.Concept 0) (head.Basic (basic.Exists (direct_at 2)))) ((0, omega arith, refl)) refl
        (each (leaf (record { name = codes "A"; named = refl; there = (0, omega arith, refl) })) none)

    s_derived : DerivedAt clashing a_and_b (Next (Named (codes "a")) (direct_at 2)) (basic.Exists (direct_at 0))
    s_derived = node (implies (basic.Exists (inverted_at 2)) (head.Basic (basic.Exists (direct_at 0)))) (2, omega arith, refl) refl (each (leaf refl) none)

pub clashes_in_order : ClashesInOrder
clashes_in_order = (first_is_clash, λ d clash. not_before d.element d.inclusion clash.exists clash.violates)
