-- Laws of queues of places.
use Rattle.std.proofs.Common.{◌≡◌, ◌≢◌, ℕ, zero, suc, ◌+◌, ◌-◌, ◌/◌, ◌%◌, ◌<◌, ◌≤◌, ◌⊎◌, ◌↔◌, inl, inr, ◌==◌, Bool, true, false, List, [], ◌∷◌, ◌++◌, length, refl, sym, ◌∙◌, ap, subst, arith, if◌then◌else◌}
use Rattle.std.specs.List.{AllByRecursion, IsDistinct, list_any}
use Rattle.std.proofs.Math.Dec.{eqb}
use Rattle.std.proofs.lemmas.Bool.Decides.{nat_tests}
use Rattle.std.proofs.lemmas.List.Elements.{recursion_from_All, All-append, All-cons, All-nil}
use Rattle.std.proofs.lemmas.Map.Steps.{length-le_from_distinct_below}
use Rattle.std.proofs.lemmas.Nat.Bits.{bit_at-lt}
use Rattle.dl_base.specs.Ontology.{IsPlaced}
use Rattle.dl_base.specs.Sets.{place_of, HasBit, HasBasic}
use Rattle.dl_base.specs.declared.concept.Basic.{Basic}
use Rattle.dl_base.specs.declared.concept.Basic.TheVariants as basic
use Rattle.dl_base.proofs.SetLemmas.{place_of-lt}
use Rattle.horn_closure.proofs.CountLemmas.{same_is, other_is, count_more, count_past}
use Rattle.horn_closure.specs.Run.{count, bit, IsQueueOf, Marks}

-- the basic concept of a place
pub record IsAt (p : ℕ) : Type 0 where
  pub concept : Basic
  pub placed : IsPlaced 512 256 concept
  pub place : place_of concept ≡ p

pub at_place : (p : ℕ) → p < 1024 → IsAt p
at_place p below = by (p / 512) refl
  where
    role : (r : ℕ) → (p - 512) % 2 ≡ r → 512 ≤ p → IsAt p
    role zero even high = record { concept = basic.Exists (record { name = (p - 512) / 2; inverse = false }); placed = omega arith; place = omega arith }
    role (suc zero) odd high = record { concept = basic.Exists (record { name = (p - 512) / 2; inverse = true }); placed = omega arith; place = omega arith }
    role (suc (suc r)) other high = absurd (omega arith)

    by : (h : ℕ) → p / 512 ≡ h → IsAt p
    by zero low = record { concept = basic.Concept p; placed = omega arith; place = refl }
    by (suc h) high = role ((p - 512) % 2) refl (omega arith)

pub bit-lt : (words : List ℕ) (p : ℕ) → bit words p < 2
bit-lt words p = bit_at-lt _ (p % 64)

-- numbers below n, none of them twice, are at most n
none_later : (x : ℕ) (xs : List ℕ) → count x xs ≡ 0 → AllByRecursion (λ y. eqb x y ≡ false) xs
none_later x [] none = tt
none_later x (y ∷ ys) none = (by (y == x) refl, none_later x ys (omega arith))
  where
    by : (t : Bool) → (y == x) ≡ t → eqb x y ≡ false
    by true e = absurd (let more : 1 + count x ys ≡ 0 = rw e at none in omega arith)
    by false e = let ne : x ≢ y = grind (arith, nat_tests) in other_is x y ne

distinct_from : (xs : List ℕ) → ((q : ℕ) → count q xs ≤ 1) → IsDistinct eqb xs
unfolding IsDistinct
distinct_from [] once = tt
distinct_from (x ∷ xs) once = (none_later x xs (let most : 1 + count x xs ≤ 1 = rw (same_is x) at (once x) in omega arith), distinct_from xs (λ q. let most : count q (x ∷ xs) ≤ 1 = once q in omega arith))

below_from : (n q : ℕ) (xs : List ℕ) → AllByRecursion (λ k. k < n) xs → list_any (eqb q) xs ≡ true → q < n
below_from n q [] all there = absurd (cc)
below_from n q (x ∷ xs) all there = by (q == x) refl (below_from n q xs all.1)
  where
    by : (t : Bool) → (q == x) ≡ t → (list_any (eqb q) xs ≡ true → q < n) → q < n
    by true e rest = let same : q ≡ x = grind (arith, nat_tests) in let below : x < n = all.0 in omega arith
    by false e rest = rest (rw e at there)

pub length-le_once : (n : ℕ) (xs : List ℕ) → AllByRecursion (λ k. k < n) xs → ((q : ℕ) → count q xs ≤ 1) → length xs ≤ n
length-le_once n xs all once = length-le_from_distinct_below xs n (distinct_from xs once) (λ q there. below_from n q xs all there)

-- a queue has no place twice
pub once_each : (words queue : List ℕ) → IsQueueOf words queue → (q : ℕ) → count q queue ≤ 1
once_each words queue is q = by (q / 1024) refl
  where
    by : (h : ℕ) → q / 1024 ≡ h → count q queue ≤ 1
    by zero low = let at : count q queue ≡ bit words q = is.each q (omega arith) in let most : bit words q < 2 = bit-lt words q in omega arith
    by (suc h) high = let none : count q queue ≡ 0 = count_past 1024 q queue (recursion_from_All _ queue is.inside) (omega arith) in omega arith

-- there is room for one more place
pub room_for : (words queue : List ℕ) (p : ℕ) → IsQueueOf words queue → p < 1024 → bit words p ≡ 0 → length queue < 1024
room_for words queue p is below unset =
    let most : length (p ∷ queue) ≤ 1024 = length-le_once 1024 (p ∷ queue) (below, recursion_from_All _ queue is.inside) once in omega arith
  where
    once : (q : ℕ) → count q (p ∷ queue) ≤ 1
    once q = by (p == q) refl (once_each words queue is q)
      where
        by : (t : Bool) → (p == q) ≡ t → count q queue ≤ 1 → count q (p ∷ queue) ≤ 1
        by true e most = let same : p ≡ q = grind (arith, nat_tests) in
            let none : count p queue ≡ bit words p = is.each p below in
            let here : count q queue ≡ 0 = rw (← same) (none ∙ unset) in rw e (omega arith)
        by false e most = rw e (omega arith)

agree : (m n : ℕ) → m < 2 → n < 2 → (m ≡ 1 → n ≡ 1) → (n ≡ 1 → m ≡ 1) → m ≡ n
agree zero zero hm hn f g = refl
agree zero (suc n) hm hn f g = absurd (let one : 0 ≡ 1 = g (omega arith) in omega arith)
agree (suc m) zero hm hn f g = absurd (let one : 0 ≡ 1 = f (omega arith) in omega arith)
agree (suc m) (suc n) hm hn f g = omega arith

-- what a set that has one basic concept more has at each place
pub bit_added : (old new : List ℕ) (b : Basic) → IsPlaced 512 256 b → bit old (place_of b) ≡ 0 → ((c : Basic) → HasBasic new c ↔ ((c ≡ b) ⊎ HasBasic old c))
    → (p : ℕ) → p < 1024 → bit new p ≡ bit old p + (if place_of b == p then 1 else 0)
bit_added old new b placed unset adds p below = by (place_of b == p) refl
  where
    by : (t : Bool) → (place_of b == p) ≡ t → bit new p ≡ bit old p + (if place_of b == p then 1 else 0)
    by true e =
        let same : place_of b ≡ p = grind (arith, nat_tests) in
        let set : bit new (place_of b) ≡ 1 = ((adds b).1 (inl refl)).there in
        let now : bit new p ≡ 1 = rw same at set in
        let was : bit old p ≡ 0 = rw same at unset in
        rw e (omega arith)
    by false e =
        let ne : place_of b ≢ p = grind (arith, nat_tests) in
        let at : IsAt p = at_place p below in
        let other : at.concept ≢ b = λ is. ne (sym (ap place_of is) ∙ at.place) in
        let forth : bit new p ≡ 1 → bit old p ≡ 1 = λ h. elim ((adds at.concept).0 (record { placed = at.placed; there = subst (λ (q : ℕ). HasBit new q) (sym at.place) h })) [
          | inl is ↦ absurd (other is)
          | inr has ↦ subst (λ (q : ℕ). HasBit old q) at.place has.there
        ] in
        let back : bit old p ≡ 1 → bit new p ≡ 1 = λ h. subst (λ (q : ℕ). HasBit new q) at.place
        ((adds at.concept).1 (inr (record { placed = at.placed; there = subst (λ (q : ℕ). HasBit old q) (sym at.place) h }))).there in
        rw e (let equal : bit new p ≡ bit old p = agree (bit new p) (bit old p) (bit-lt new p) (bit-lt old p) forth back in omega arith)

-- where b isn't in the set its bit isn't set
pub unset_from : (words : List ℕ) (b : Basic) → IsPlaced 512 256 b → (HasBasic words b → ⊥) → bit words (place_of b) ≡ 0
unset_from words b placed hasn't = by (bit words (place_of b)) refl (bit-lt words (place_of b))
  where
    by : (n : ℕ) → bit words (place_of b) ≡ n → bit words (place_of b) < 2 → bit words (place_of b) ≡ 0
    by zero e h = e
    by (suc n) e h = absurd (hasn't (record { placed = placed; there = omega arith }))

pub marked_new : (b : Basic) (old queue new : List ℕ) → IsPlaced 512 256 b → bit old (place_of b) ≡ 0 → IsQueueOf old queue
    → ((c : Basic) → HasBasic new c ↔ ((c ≡ b) ⊎ HasBasic old c)) → Marks b old queue new (queue ++ place_of b ∷ [])
marked_new b old queue new placed unset is adds = record {
  adds = adds;
  marks = record {
    inside = All-append (λ p. p < 1024) queue _ is.inside (All-cons (λ p. p < 1024) (place_of b) [] (place_of-lt b placed) (All-nil (λ p. p < 1024)));
    each = λ p below.
        let now : bit new p ≡ bit old p + (if place_of b == p then 1 else 0) = bit_added old new b placed unset adds p below in
        let was : count p queue ≡ bit old p = is.each p below in
        let more : count p (queue ++ place_of b ∷ []) ≡ count p queue + (if place_of b == p then 1 else 0) = count_more p (place_of b) queue in
        omega arith;
  };
  longer = (place_of b ∷ [], refl);
}

pub marked_before : (b : Basic) (old queue : List ℕ) → HasBasic old b → IsQueueOf old queue → Marks b old queue old queue
marked_before b old queue has is = record {
  adds = λ c. (λ h. inr h, λ either. elim either [ inl e ↦ subst (HasBasic old) (sym e) has | inr h ↦ h ]);
  marks = is;
  longer = ([], nothing_after queue);
}
  where
    nothing_after : (xs : List ℕ) → xs ≡ xs ++ []
    nothing_after [] = refl
    nothing_after (x ∷ xs) = ap (λ (ys : List ℕ). x ∷ ys) (nothing_after xs)
