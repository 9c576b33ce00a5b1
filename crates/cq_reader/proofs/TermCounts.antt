-- A query within the limits is not too large: distinct items that are all among so few are no more than these.
use Rattle.std.proofs.Common.{◌≡◌, ◌≢◌, ℕ, zero, suc, ◌+◌, ◌<◌, ◌≤◌, List, [], ◌∷◌, length, get_or, Contains, refl, sym, subst, ◌∙◌, arith, inl, inr, ◌⊎◌}
use Rattle.std.specs.Prelude.{AllPairs}
use Rattle.std.proofs.lemmas.List.Elements.{All-contains}
use Rattle.dl_base.specs.Query.{Question, terms, HasFewTerms}
use Rattle.dl_base.specs.declared.query.Term.{Term}
use Rattle.cq_reader.specs.QueryLimits.{HasMoreTerms, IsSmall, IsTooLarge}

-- x is one of them, by recursion on the list
abbrev In : {X : Type 0} → X → List X → Type 0
In x [] = ⊥
In x (y ∷ ys) = (x ≡ y) ⊎ In x ys

in_at : {X : Type 0} (xs : List X) (x : X) (k : ℕ) → k < length xs → get_or xs k x ≡ x → In x xs
in_at [] x k lt e = absurd (omega (arith, lt))
in_at (y ∷ ys) x zero lt e = inl (sym e)
in_at (y ∷ ys) x (suc k) lt e = inr (in_at ys x k (omega (arith, lt)) e)

in_from : {X : Type 0} (xs : List X) (x : X) → Contains xs x → In x xs
in_from xs x c = in_at xs x c.0 c.1 c.2

in_to : {X : Type 0} (xs : List X) (x : X) → In x xs → Contains xs x
in_to [] x i = absurd i
in_to (y ∷ ys) x (inl e) = (0, omega arith, sym e)
in_to (y ∷ ys) x (inr i) = let c = in_to ys x i in (suc c.0, omega (arith, c.1), c.2)

-- the list with one x less
record Without {X : Type 0} (x : X) (ys : List X) : Type 0 where
  rest : List X
  shorter : length ys ≡ length rest + 1
  others : (z : X) → z ≢ x → In z ys → In z rest

without : {X : Type 0} (ys : List X) (x : X) → In x ys → Without x ys
without [] x i = absurd i
without (y ∷ ys) x (inl e) = record { rest = ys; shorter = omega arith; others = λ z ne i. elim i [ inl f ↦ absurd (ne (f ∙ sym e)) | inr j ↦ j ] }
without (y ∷ ys) x (inr i) =
    let w = without ys x i in
    record { rest = y ∷ w.rest; shorter = omega (arith, w.shorter); others = λ z ne j. elim j [ inl f ↦ inl f | inr k ↦ inr (w.others z ne k) ] }

abbrev Apart : {X : Type 0} → List X → Type 0
Apart [] = Unit {0}
Apart (x ∷ xs) = (In x xs → ⊥) × Apart xs

apart_from : {X : Type 0} (xs : List X) → AllPairs (λ x y. x ≢ y) xs → Apart xs
apart_from [] p = tt
apart_from (x ∷ xs) p = (
  λ i. let c = in_to xs x i in p 0 (suc c.0) x (omega arith) (omega (arith, c.1)) (sym c.2),
  apart_from xs (λ i j d lt below. p (suc i) (suc j) d (omega (arith, lt)) (omega (arith, below))),
)

no_more : {X : Type 0} (xs ys : List X) → Apart xs → ((z : X) → In z xs → In z ys) → length xs ≤ length ys
no_more [] ys a f = omega arith
no_more (x ∷ xs) ys a f =
    let w = without ys x (f x (inl refl)) in
    let fewer = no_more xs w.rest a.1 (λ z i. w.others z (λ e. a.0 (subst (λ (y : _). In y xs) e i)) (f z (inr i))) in
    omega (arith, fewer, w.shorter)

pub few_not_more : (q : Question) (most : ℕ) → HasFewTerms q most → HasMoreTerms q most → ⊥
few_not_more q most few more =
    let among : (z : Term) → In z more.some → In z few.few =
    λ z i. in_from few.few z (All-contains (Contains few.few) (terms q) z few.each (All-contains (Contains (terms q)) more.some z more.within (in_to more.some z i))) in
    let fits : length more.some ≤ length few.few = no_more more.some few.few (apart_from more.some more.distinct) among in
    absurd (omega (arith, fits, few.count, more.more))

pub small_not_too_large : (q : Question) → IsSmall q → IsTooLarge q → ⊥
small_not_too_large q small (inl atoms) = absurd (omega (arith, small.atoms, atoms))
small_not_too_large q small (inr (inl answers)) = absurd (omega (arith, small.answers, answers))
small_not_too_large q small (inr (inr more)) = few_not_more q 24 small.terms more
