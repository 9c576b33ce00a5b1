-- Small ontologies: what little is derived there, by tests that can be computed.
use Rattle.std.proofs.Common.{◌≡◌, ℕ, zero, suc, ◌<◌, ◌≤◌, inl, inr, Bool, true, false, not, ◌&&◌, ◌||◌, List, [], ◌∷◌, length, take, Some, slice_get, Contains, refl, sym, ◌∙◌, ap, subst, arith, true≢false}
use Rattle.std.specs.List.{list_all, list_any, AllByRecursion}
use Rattle.std.proofs.Math.Dec.{eqb}
use Rattle.std.proofs.lemmas.Bool.{eqb-true, and_parts, or_cases}
use Rattle.std.proofs.lemmas.Option.{slice_get_within, same_Some}
use Rattle.dl_base.specs.Derivation.{Derives, Violates}
use Rattle.dl_base.specs.Sets.{role_place}
use Rattle.dl_base.specs.declared.concept.Basic.{Basic}
use Rattle.dl_base.specs.declared.concept.Basic.TheVariants as basic
use Rattle.dl_base.specs.declared.concept.Head.{Head}
use Rattle.dl_base.specs.declared.concept.Head.TheVariants as head
use Rattle.dl_base.specs.declared.concept.Inclusion.{Inclusion}
use Rattle.dl_base.proofs.DerivationLemmas.{IsClosed, least, least-all}
use Rattle.dl_base.proofs.RisingLemmas.{contains_cases, contains_later}
use Rattle.dl_base.proofs.SetLemmas.{role_place-same}

abbrev pub same_basic : Basic → Basic → Bool
same_basic (basic.Concept c) (basic.Concept d) = eqb c d
same_basic (basic.Concept c) (basic.Exists s) = false
same_basic (basic.Exists r) (basic.Concept d) = false
same_basic (basic.Exists r) (basic.Exists s) = eqb (role_place r) (role_place s)

same_basic_is : (b c : Basic) → same_basic b c ≡ true → b ≡ c
same_basic_is (basic.Concept c) (basic.Concept d) e = ap basic.Concept (eqb-true c d e)
same_basic_is (basic.Concept c) (basic.Exists s) e = absurd (true≢false (sym e))
same_basic_is (basic.Exists r) (basic.Concept d) e = absurd (true≢false (sym e))
same_basic_is (basic.Exists r) (basic.Exists s) e = ap basic.Exists (role_place-same r s (eqb-true (role_place r) (role_place s) e))

-- it is one of these
abbrev pub among : List Basic → Basic → Bool
among bs b = list_any (same_basic b) bs

pub among_is : (bs : List Basic) (b : Basic) → among bs b ≡ true → Contains bs b
among_is [] b e = absurd (true≢false (sym e))
among_is (c ∷ bs) b e = elim (or_cases (same_basic b c) (among bs b) e) [
  | inl here ↦ (0, omega arith, sym (same_basic_is b c here))
  | inr later ↦ contains_later c bs b (among_is bs b later)
]

-- ---- closed sets

abbrev pub head_in : (Basic → Bool) → Head → Bool
head_in test (head.Basic b) = test b
head_in test head.Nothing = true

-- where the body is in the set, so is the head
abbrev pub respects : (Basic → Bool) → Inclusion → Bool
respects test i = not (list_all test i.body) || head_in test i.head

pub tested : {X : Type 0} (test : X → Bool) (xs : List X) (x : X) → list_all test xs ≡ true → Contains xs x → test x ≡ true
tested test [] x all c = absurd (omega arith)
tested test (y ∷ ys) x all c = elim (contains_cases y ys x c) [
  | inl e ↦ ap test e ∙ (and_parts (test y) (list_all test ys) all).0
  | inr d ↦ tested test ys x (and_parts (test y) (list_all test ys) all).1 d
]

all_tested : (test : Basic → Bool) (bs : List Basic) → AllByRecursion (λ b. test b ≡ true) bs → list_all test bs ≡ true
all_tested test [] all = refl
all_tested test (b ∷ bs) all = rw (all.0, all_tested test bs all.1) refl

closed_by : (inclusions : List Inclusion) (test : Basic → Bool) → list_all (respects test) inclusions ≡ true → IsClosed inclusions (λ b. test b ≡ true)
closed_by inclusions test all i b there is body =
    let whole : list_all test i.body ≡ true = all_tested test i.body body in
    let kept : not (list_all test i.body) || head_in test i.head ≡ true = tested (respects test) inclusions i all there in
    let rest : (not true || head_in test i.head) ≡ true = subst (λ (x : Bool). (not x || head_in test i.head) ≡ true) whole kept in
    subst (λ (h : Head). head_in test h ≡ true) is rest

-- what the violated inclusion needs is in the set
abbrev pub breaks : (Basic → Bool) → Inclusion → Bool
breaks test i = nothing_of i.head && list_all test i.body
  where
    nothing_of : Head → Bool
    nothing_of (head.Basic b) = false
    nothing_of head.Nothing = true

module _ (inclusions : List Inclusion) (held : Basic → Type 0) (bs : List Basic)
    (closed : list_all (respects (among bs)) inclusions ≡ true) (has : (b : Basic) → held b → among bs b ≡ true) where
  -- what is derived is one of the concepts of a closed list that has what is held
  pub derived_among : (b : Basic) → Derives inclusions held b → Contains bs b
  derived_among b d = among_is bs b (least inclusions held (λ b. among bs b ≡ true) (closed_by inclusions (among bs) closed) has d)

  -- the first inclusions, whose bodies aren't in the list, are not violated
  pub violated_behind : (n k : ℕ) → list_all (λ i. not (breaks (among bs) i)) (take n inclusions) ≡ true → Violates inclusions held k → n < k
  violated_behind n k none v =
      let body : list_all (among bs) v.inclusion.body ≡ true =
      all_tested (among bs) v.inclusion.body (least-all inclusions held (λ b. among bs b ≡ true) (closed_by inclusions (among bs) closed) has v.body) in
      let broken : breaks (among bs) v.inclusion ≡ true = rw (v.nothing, body) refl in
      let past : n ≤ v.before = behind inclusions n v.before v.inclusion none v.at broken in
      omega (arith, past, v.number)
    where
      behind : (is : List Inclusion) (n before : ℕ) (i : Inclusion) → list_all (λ i. not (breaks (among bs) i)) (take n is) ≡ true → slice_get is before ≡ Some i → breaks (among bs) i ≡ true → n ≤ before
      behind [] n before i all at broken = absurd cc
      behind (x ∷ xs) zero before i all at broken = omega arith
      behind (x ∷ xs) (suc n) zero i all at broken =
          let is : x ≡ i = same_Some x i at in
          let fine : not (breaks (among bs) x) ≡ true = (and_parts (not (breaks (among bs) x)) _ all).0 in
          let also : breaks (among bs) x ≡ true = ap (breaks (among bs)) is ∙ broken in
          absurd (true≢false (sym (rw also at fine)))
      behind (x ∷ xs) (suc n) (suc before) i all at broken =
          let rest : n ≤ before = behind xs n before i (and_parts (not (breaks (among bs) x)) _ all).1 at broken in
          omega arith

  -- no inclusion is violated, where none has its body in the list
  pub none_violated : (k : ℕ) → list_all (λ i. not (breaks (among bs) i)) inclusions ≡ true → Violates inclusions held k → ⊥
  none_violated k none v =
      let past : length inclusions < k = violated_behind (length inclusions) k (subst (λ (is : List Inclusion). list_all (λ i. not (breaks (among bs) i)) is ≡ true) (sym (take_all inclusions)) none) v in
      let within : v.before < length inclusions = slice_get_within inclusions v.before v.inclusion v.at in
      absurd (omega (arith, past, within, v.number))
    where
      take_all : (is : List Inclusion) → take (length is) is ≡ is
      take_all [] = refl
      take_all (i ∷ is) = ap (λ (rest : List Inclusion). i ∷ rest) (take_all is)
