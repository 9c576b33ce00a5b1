-- Laws of the lists of uses.
use Rattle.std.proofs.Common.{◌≡◌, ◌≢◌, ℕ, zero, suc, ◌+◌, ◌<◌, ◌≤◌, ◌⊎◌, inl, inr, List, [], ◌∷◌, ◌++◌, length, get_or, set, take, drop, slice_get, slice_index_or, Some, All, refl, sym, ◌∙◌, ap, arith, append_assoc, add-one, get_or-set_same, get_or-set_other}
use Rattle.std.proofs.lemmas.Bool.{cases_eq}
use Rattle.std.proofs.lemmas.List.Elements.{All-append, All-cons, All-nil}
use Rattle.std.proofs.lemmas.Grind.{take_at_read}
use Rattle.std.proofs.lemmas.Option.{slice_get_within}
use Rattle.dl_base.specs.Sets.{place_of}
use Rattle.dl_base.specs.declared.concept.Basic.{Basic}
use Rattle.dl_base.specs.declared.concept.Inclusion.{Inclusion}
use Rattle.horn_closure.specs.Run.{members_at, copies, count, AreUses}
use Rattle.horn_closure.proofs.CountLemmas.{same_is, other_is, count-append, members_at-append, copies-push, count-copies_same, count-copies_other}

All-copies : (P : ℕ → Type 0) (n i : ℕ) → P i → All P (copies n i)
All-copies P zero i h = All-nil P
All-copies P (suc n) i h = All-cons P i (copies n i) h (All-copies P n i h)

-- a member at the place adds one use
pub uses_more : (old now : List ℕ) (body : List Basic) (p i k : ℕ) (d : Basic) → k < length body → p ≡ place_of (get_or body k d)
    → now ≡ old ++ copies (members_at p (take k body)) i → now ++ i ∷ [] ≡ old ++ copies (members_at p (take (k + 1) body)) i
uses_more old now body p i k d inside is h =
    let split : take (k + 1) body ≡ take k body ++ get_or body k d ∷ [] = (take_at_read body k d inside).1 in
    let one : members_at p (get_or body k d ∷ []) ≡ 1 = rw (← is, same_is p) refl in
    let sum : members_at p (take (k + 1) body) ≡ members_at p (take k body) + 1 = ap (members_at p) split ∙ members_at-append p (take k body) (get_or body k d ∷ []) ∙ ap (λ n. members_at p (take k body) + n) one in
    rw (h, sum, add-one) (append_assoc old _ _ ∙ ap (λ (xs : List ℕ). old ++ xs) (copies-push (members_at p (take k body)) i))

-- a member elsewhere adds none
pub uses_same : (old now : List ℕ) (body : List Basic) (p i k : ℕ) (d : Basic) → k < length body → p ≢ place_of (get_or body k d)
    → now ≡ old ++ copies (members_at p (take k body)) i → now ≡ old ++ copies (members_at p (take (k + 1) body)) i
uses_same old now body p i k d inside is h =
    let split : take (k + 1) body ≡ take k body ++ get_or body k d ∷ [] = (take_at_read body k d inside).1 in
    let none : members_at p (get_or body k d ∷ []) ≡ 0 = rw (other_is p (place_of (get_or body k d)) is) refl in
    let sum : members_at p (take (k + 1) body) ≡ members_at p (take k body) = ap (members_at p) split ∙ members_at-append p (take k body) (get_or body k d ∷ []) ∙ (omega arith) in
    rw sum h

-- after one member of a body
pub uses_pushed : (old now : List (List ℕ)) (pushed : List ℕ) (body : List Basic) (q p i k : ℕ) (d : Basic) → k < length body → q ≡ place_of (get_or body k d) → q < length now
    → pushed ≡ slice_index_or now q [] ++ i ∷ []
    → slice_index_or now p [] ≡ slice_index_or old p [] ++ copies (members_at p (take k body)) i
    → slice_index_or (set now q pushed) p [] ≡ slice_index_or old p [] ++ copies (members_at p (take (k + 1) body)) i
uses_pushed old now pushed body q p i k d inside is below pushed_is h = elim (cases_eq p q) [
  | inl same ↦ let here : slice_index_or (set now q pushed) p [] ≡ slice_index_or now p [] ++ i ∷ [] = rw same (get_or-set_same now q pushed [] below ∙ pushed_is) in
      here ∙ uses_more (slice_index_or old p []) (slice_index_or now p []) body p i k d inside (same ∙ is) h
  | inr other ↦ get_or-set_other now q p pushed [] other ∙ uses_same (slice_index_or old p []) (slice_index_or now p []) body p i k d inside (λ e. other (e ∙ sym is)) h
]

-- the uses among the inclusions below i
pub record UsesBelow (inclusions : List Inclusion) (p i : ℕ) (uses : List ℕ) : Type 0 where
  pub inside : All (λ k. k < length inclusions) uses
  pub below : (j : ℕ) (inclusion : Inclusion) → j < i → slice_get inclusions j ≡ Some inclusion → count j uses ≡ members_at p inclusion.body
  pub above : (j : ℕ) → i ≤ j → count j uses ≡ 0

pub below_first : (inclusions : List Inclusion) (p : ℕ) (uses : List ℕ) → uses ≡ [] → UsesBelow inclusions p 0 uses
below_first inclusions p uses none = rw none (record { inside = All-nil (λ k. k < length inclusions); below = λ j inclusion h at. absurd (omega arith); above = λ j h. refl })

-- after the members of inclusion i
pub below_more_uses : (inclusions : List Inclusion) (p i : ℕ) (inclusion : Inclusion) (uses new : List ℕ) → i < length inclusions → slice_get inclusions i ≡ Some inclusion
    → new ≡ uses ++ copies (members_at p inclusion.body) i → UsesBelow inclusions p i uses → UsesBelow inclusions p (i + 1) new
below_more_uses inclusions p i inclusion uses new inside at new_is s = rw new_is (record {
  inside = All-append (λ k. k < length inclusions) uses _ s.inside (All-copies (λ k. k < length inclusions) (members_at p inclusion.body) i inside);
  below = λ j other h at'. below_at j (cases_eq j i) other h at';
  above = λ j h.
      let ne : j ≢ i = omega arith in
      let split : count j (uses ++ copies (members_at p inclusion.body) i) ≡ count j uses + count j (copies (members_at p inclusion.body) i) = count-append j uses _ in
      let old : count j uses ≡ 0 = s.above j (omega arith) in
      let none : count j (copies (members_at p inclusion.body) i) ≡ 0 = count-copies_other (members_at p inclusion.body) i j ne in
      omega arith;
})
  where
    below_at : (j : ℕ) → (j ≡ i) ⊎ (j ≢ i) → (other : Inclusion) → j < i + 1 → slice_get inclusions j ≡ Some other
        → count j (uses ++ copies (members_at p inclusion.body) i) ≡ members_at p other.body
    below_at j (inl same) other h at' =
        let one : Some inclusion ≡ Some other = sym at ∙ (rw same at at') in
        let is : inclusion ≡ other = cc in
        let split : count i (uses ++ copies (members_at p inclusion.body) i) ≡ count i uses + count i (copies (members_at p inclusion.body) i) = count-append i uses _ in
        let old : count i uses ≡ 0 = s.above i (omega arith) in
        let new : count i (copies (members_at p inclusion.body) i) ≡ members_at p inclusion.body = count-copies_same (members_at p inclusion.body) i in
        let sum : count i (uses ++ copies (members_at p inclusion.body) i) ≡ members_at p inclusion.body = omega arith in
        rw same (sum ∙ ap (λ (x : Inclusion). members_at p x.body) is)
    below_at j (inr ne) other h at' =
        let split : count j (uses ++ copies (members_at p inclusion.body) i) ≡ count j uses + count j (copies (members_at p inclusion.body) i) = count-append j uses _ in
        let old : count j uses ≡ members_at p other.body = s.below j other (omega arith) at' in
        let none : count j (copies (members_at p inclusion.body) i) ≡ 0 = count-copies_other (members_at p inclusion.body) i j ne in
        omega arith

pub below_all : (inclusions : List Inclusion) (p i : ℕ) (uses : List ℕ) → length inclusions ≤ i → UsesBelow inclusions p i uses → AreUses inclusions p uses
below_all inclusions p i uses h s = record {
  inside = s.inside;
  counts = λ j inclusion at. let within : j < length inclusions = slice_get_within inclusions j inclusion at in s.below j inclusion (omega arith) at;
}

-- an empty list more at the end of empty lists
pub still_empty : (xs : List (List ℕ)) (p : ℕ) → ((q : ℕ) → slice_index_or xs q [] ≡ []) → slice_index_or (xs ++ [] ∷ []) p [] ≡ []
still_empty [] zero h = refl
still_empty [] (suc p) h = refl
still_empty (x ∷ xs) zero h = h 0
still_empty (x ∷ xs) (suc p) h = still_empty xs p (λ q. h (suc q))

-- a list that is written over as a whole
pub written_back : {X : Type 0} (new old : List X) (n : ℕ) → length new ≡ length old → n ≡ length old → take n (new ++ drop (length new) old) ≡ new
written_back [] [] zero same many = refl
written_back [] [] (suc n) same many = absurd (omega arith)
written_back [] (y ∷ ys) n same many = absurd (omega arith)
written_back (x ∷ xs) [] n same many = absurd (omega arith)
written_back (x ∷ xs) (y ∷ ys) zero same many = absurd (omega arith)
written_back {X} (x ∷ xs) (y ∷ ys) (suc n) same many = ap (λ (zs : List X). x ∷ zs) (written_back xs ys n (omega arith) (omega arith))
