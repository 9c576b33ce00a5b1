-- Laws of counting in lists.
use Rattle.std.proofs.Common.{◌≡◌, ◌≢◌, ℕ, zero, suc, ◌+◌, ◌<◌, ◌≤◌, ◌==◌, Bool, true, false, List, [], ◌∷◌, ◌++◌, length, take, drop, refl, sym, ◌∙◌, ap, arith, if◌then◌else◌}
use Rattle.std.specs.List.{AllByRecursion}
use Rattle.std.proofs.lemmas.Bool.Decides.{nat_tests}
use Rattle.std.proofs.lemmas.List.{take-append-drop}
use Rattle.dl_base.specs.Sets.{place_of}
use Rattle.dl_base.specs.declared.concept.Basic.{Basic}
use Rattle.horn_closure.specs.Run.{count, members_at, waiting, copies}

pub same_is : (i : ℕ) → (i == i) ≡ true
same_is i = grind (arith, nat_tests)

pub other_is : (i j : ℕ) → i ≢ j → (i == j) ≡ false
other_is i j ne = grind (arith, nat_tests)

pub count-append : (i : ℕ) (xs ys : List ℕ) → count i (xs ++ ys) ≡ count i xs + count i ys
count-append i [] ys = omega arith
count-append i (x ∷ xs) ys = let rest : count i (xs ++ ys) ≡ count i xs + count i ys = count-append i xs ys in omega arith

-- one more at the end
pub count_more : (i k : ℕ) (xs : List ℕ) → count i (xs ++ k ∷ []) ≡ count i xs + (if k == i then 1 else 0)
count_more i k xs = let split : count i (xs ++ k ∷ []) ≡ count i xs + count i (k ∷ []) = count-append i xs (k ∷ []) in omega arith

-- the last of a list once more
pub count_last : (k : ℕ) (xs : List ℕ) → count k (xs ++ k ∷ []) ≡ count k xs + 1
count_last k xs = count_more k k xs ∙ (rw (same_is k) refl)

-- what is at the front
pub count-take : (i n : ℕ) (xs : List ℕ) → count i (take n xs) ≤ count i xs
count-take i n xs =
    let split : count i (take n xs ++ drop n xs) ≡ count i (take n xs) + count i (drop n xs) = count-append i (take n xs) (drop n xs) in
    let whole : count i (take n xs ++ drop n xs) ≡ count i xs = ap (count i) (take-append-drop n xs) in
    omega arith

-- a number past all of the list isn't in it
pub count_past : (n i : ℕ) (xs : List ℕ) → AllByRecursion (λ k. k < n) xs → n ≤ i → count i xs ≡ 0
count_past n i [] all past = refl
count_past n i (x ∷ xs) all past =
    let other : (x == i) ≡ false = other_is x i (λ e. absurd (let below : x < n = all.0 in omega arith)) in
    let rest : count i xs ≡ 0 = count_past n i xs all.1 past in
    rw other (omega arith)

-- one place more is visited
pub waiting_more : (vs ws : List ℕ) (p : ℕ) (bs : List Basic) → ((q : ℕ) → count q ws ≡ count q vs + (if p == q then 1 else 0)) → count p vs ≡ 0
    → waiting ws bs + members_at p bs ≡ waiting vs bs
waiting_more vs ws p [] more new = refl
waiting_more vs ws p (b ∷ bs) more new = by (p == place_of b) refl (more (place_of b)) (waiting_more vs ws p bs more new)
  where
    by : (t : Bool) → (p == place_of b) ≡ t → count (place_of b) ws ≡ count (place_of b) vs + (if p == place_of b then 1 else 0) → waiting ws bs + members_at p bs ≡ waiting vs bs
        → waiting ws (b ∷ bs) + members_at p (b ∷ bs) ≡ waiting vs (b ∷ bs)
    by true e now rest =
        let same : p ≡ place_of b = grind (arith, nat_tests) in
        let none : count (place_of b) vs ≡ 0 = rw same at new in
        let one : count (place_of b) ws ≡ count (place_of b) vs + 1 = rw e at now in
        rw e (omega arith)
    by false e now rest =
        let kept : count (place_of b) ws ≡ count (place_of b) vs + 0 = rw e at now in
        rw e (omega arith)

-- none is waiting exactly where the place of each is visited
pub all_visited : (visited : List ℕ) (bs : List Basic) → waiting visited bs ≡ 0 → AllByRecursion (λ b. 0 < count (place_of b) visited) bs
all_visited visited [] h = tt
all_visited visited (b ∷ bs) h = (omega arith, all_visited visited bs (omega arith))

pub none_waiting : (visited : List ℕ) (bs : List Basic) → AllByRecursion (λ b. 0 < count (place_of b) visited) bs → waiting visited bs ≡ 0
none_waiting visited [] h = refl
none_waiting visited (b ∷ bs) h =
    let here : 0 < count (place_of b) visited = h.0 in
    let rest : waiting visited bs ≡ 0 = none_waiting visited bs h.1 in omega arith

-- before any place is visited all are waiting
pub all_waiting : (bs : List Basic) → waiting [] bs ≡ length bs
all_waiting [] = refl
all_waiting (b ∷ bs) = let rest : waiting [] bs ≡ length bs = all_waiting bs in omega arith

pub members_at-append : (p : ℕ) (xs ys : List Basic) → members_at p (xs ++ ys) ≡ members_at p xs + members_at p ys
members_at-append p [] ys = omega arith
members_at-append p (x ∷ xs) ys = let rest : members_at p (xs ++ ys) ≡ members_at p xs + members_at p ys = members_at-append p xs ys in omega arith

pub copies-push : (n i : ℕ) → copies n i ++ i ∷ [] ≡ copies (suc n) i
copies-push zero i = refl
copies-push (suc n) i = ap (λ (xs : List ℕ). i ∷ xs) (copies-push n i)

pub count-copies_same : (n i : ℕ) → count i (copies n i) ≡ n
count-copies_same zero i = refl
count-copies_same (suc n) i = let rest : count i (copies n i) ≡ n = count-copies_same n i in rw (same_is i) (omega arith)

pub count-copies_other : (n i j : ℕ) → j ≢ i → count j (copies n i) ≡ 0
count-copies_other zero i j ne = refl
count-copies_other (suc n) i j ne =
    let other : (i == j) ≡ false = other_is i j (λ e. ne (sym e)) in
    let rest : count j (copies n i) ≡ 0 = count-copies_other n i j ne in rw other (omega arith)
