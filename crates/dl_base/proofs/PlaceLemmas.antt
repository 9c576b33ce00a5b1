-- Members and places of lists, and lists that go together.
use Rattle.std.proofs.Common.{◌≡◌, ◌≢◌, ℕ, zero, suc, Bool, true, false, if◌then◌else◌, ◌<◌, ◌≤◌, ◌⊎◌, inl, inr, List, [], ◌∷◌, ◌++◌, length, map, get_or, Some, None, slice_get, AllPairs, Contains, refl, sym, ◌∙◌, ap, subst, arith}
use Rattle.std.specs.Prelude.{flat_map}
use Rattle.std.specs.List.{AllZip, filter}
use Rattle.std.proofs.lemmas.List.Elements.{Contains-append_left, Contains-append_right, Contains-append_cases}
use Rattle.std.proofs.lemmas.Option.{slice_get_within, get_or_from_slice_get, slice_get-get_or}
use Rattle.dl_base.proofs.RisingLemmas.{contains_cases, contains_later, contains_first}

-- what stands at a place is a member
pub member_at : {X : Type 0} (xs : List X) (k : ℕ) (x : X) → slice_get xs k ≡ Some x → Contains xs x
member_at xs k x e = (k, slice_get_within xs k x e, get_or_from_slice_get xs k x x e)

-- and a member stands at its place
pub place_of : {X : Type 0} (xs : List X) (x : X) → (c : Contains xs x) → slice_get xs c.0 ≡ Some x
place_of xs x c = slice_get-get_or xs c.0 x c.1 ∙ ap Some c.2

-- where nothing stands, the list has ended
pub none_past : {X : Type 0} (xs : List X) (k : ℕ) → slice_get xs k ≡ None → length xs ≤ k
none_past [] k e = omega arith
none_past (y ∷ xs) zero e = absurd cc
none_past (y ∷ xs) (suc k) e = let rest : length xs ≤ k = none_past xs k e in omega arith

pub some_same : {X : Type 0} {x y : X} → Some x ≡ Some y → x ≡ y
some_same e = cc

-- places in front of more items
pub place_stays : {X : Type 0} (xs ys : List X) (k : ℕ) (x : X) → slice_get xs k ≡ Some x → slice_get (xs ++ ys) k ≡ Some x
place_stays [] ys k x e = absurd cc
place_stays (y ∷ xs) ys zero x e = e
place_stays (y ∷ xs) ys (suc k) x e = place_stays xs ys k x e

pub last_place : {X : Type 0} (xs : List X) (x : X) → slice_get (xs ++ x ∷ []) (length xs) ≡ Some x
last_place [] x = refl
last_place (y ∷ xs) x = last_place xs x

-- what stands at a place of a list with one more item at its end
pub got_pushed : {X : Type 0} (xs : List X) (x y : X) (k : ℕ) → slice_get (xs ++ x ∷ []) k ≡ Some y → (slice_get xs k ≡ Some y) ⊎ ((k ≡ length xs) × (y ≡ x))
got_pushed [] x y zero at = inr (refl, let e : x ≡ y = cc in sym e)
got_pushed [] x y (suc k) at = absurd cc
got_pushed (z ∷ xs) x y zero at = inl at
got_pushed (z ∷ xs) x y (suc k) at = elim (got_pushed xs x y k at) [ inl h ↦ inl h | inr h ↦ inr (ap suc h.0, h.1) ]

-- at each place inside of a list something stands
pub something_at : {X : Type 0} (xs : List X) (k : ℕ) → k < length xs → (x : X) × (slice_get xs k ≡ Some x)
something_at [] k below = absurd (omega arith)
something_at (x ∷ xs) k below = (get_or (x ∷ xs) k x, slice_get-get_or (x ∷ xs) k x below)

-- an item of a distinct list stands at one place
pub one_place : {X : Type 0} (xs : List X) (i j : ℕ) (x : X) → AllPairs (λ y z. y ≢ z) xs → slice_get xs i ≡ Some x → slice_get xs j ≡ Some x → i ≡ j
one_place xs i j x distinct e f =
    let at_i : get_or xs i x ≡ x = get_or_from_slice_get xs i x x e in
    let at_j : get_or xs j x ≡ x = get_or_from_slice_get xs j x x f in
    let not_below : i < j → ⊥ = λ lt. distinct i j x lt (slice_get_within xs j x f) (at_i ∙ sym at_j) in
    let not_above : j < i → ⊥ = λ lt. distinct j i x lt (slice_get_within xs i x e) (at_j ∙ sym at_i) in
    omega arith

-- the list without one place of x
record Without {X : Type 0} (ys : List X) (x : X) : Type 0 where
  rest : List X
  length_is : length ys ≡ suc (length rest)
  stays : (z : X) → z ≢ x → Contains ys z → Contains rest z

without : {X : Type 0} (ys : List X) (x : X) → Contains ys x → Without ys x
without [] x c = absurd (omega (arith, c.1))
without {X} (y ∷ ys) x c = by (contains_cases y ys x c) (λ d. without ys x d)
  where
    first : x ≡ y → (z : X) → z ≢ x → (z ≡ y) ⊎ Contains ys z → Contains ys z
    first e z other (inl f) = absurd (other (f ∙ sym e))
    first e z other (inr d) = d

    later : (w : Without ys x) (z : X) → z ≢ x → (z ≡ y) ⊎ Contains ys z → Contains (y ∷ w.rest) z
    later w z other (inl f) = (0, omega arith, sym f)
    later w z other (inr d) = contains_later y w.rest z (w.stays z other d)

    by : (x ≡ y) ⊎ Contains ys x → (Contains ys x → Without ys x) → Without (y ∷ ys) x
    by (inl e) rec = record { rest = ys; length_is = refl; stays = λ z other d. first e z other (contains_cases y ys z d) }
    by (inr d) rec =
        let w : Without ys x = rec d in
        record { rest = y ∷ w.rest; length_is = ap suc w.length_is; stays = λ z other c. later w z other (contains_cases y ys z c) }

pub distinct_head : {X : Type 0} (x : X) (xs : List X) → AllPairs (λ y z. y ≢ z) (x ∷ xs) → (z : X) → Contains xs z → z ≢ x
distinct_head x xs distinct z c e = distinct 0 (suc c.0) z (omega arith) (omega (arith, c.1)) (sym e ∙ sym c.2)

pub distinct_tail : {X : Type 0} (x : X) (xs : List X) → AllPairs (λ y z. y ≢ z) (x ∷ xs) → AllPairs (λ y z. y ≢ z) xs
distinct_tail x xs distinct i j d lt below = distinct (suc i) (suc j) d (omega arith) (omega arith)

-- distinct members of a list are no more than it has places
pub no_more : {X : Type 0} (xs ys : List X) → AllPairs (λ y z. y ≢ z) xs → ((z : X) → Contains xs z → Contains ys z) → length xs ≤ length ys
no_more [] ys distinct into = omega arith
no_more (x ∷ xs) ys distinct into =
    let w : Without ys x = without ys x (into x (contains_first x xs)) in
    let rest : length xs ≤ length w.rest =
    no_more xs w.rest (distinct_tail x xs distinct) (λ z c. w.stays z (distinct_head x xs distinct z c) (into z (contains_later x xs z c))) in
    omega (arith, w.length_is)

-- one more pair at the end of both lists
pub zip_push : {A B : Type 0} (R : A → B → Type 0) (xs : List A) (ys : List B) (x : A) (y : B) → AllZip R xs ys → R x y → AllZip R (xs ++ x ∷ []) (ys ++ y ∷ [])
zip_push R [] [] x y all r = (r, tt)
zip_push R [] (b ∷ ys) x y all r = absurd all
zip_push R (a ∷ xs) [] x y all r = absurd all
zip_push R (a ∷ xs) (b ∷ ys) x y all r = (all.0, zip_push R xs ys x y all.1 r)

pub zip_weaker : {A B : Type 0} (R S : A → B → Type 0) → ((a : A) (b : B) → R a b → S a b) → (xs : List A) (ys : List B) → AllZip R xs ys → AllZip S xs ys
zip_weaker R S weaker [] [] all = tt
zip_weaker R S weaker [] (b ∷ ys) all = absurd all
zip_weaker R S weaker (a ∷ xs) [] all = absurd all
zip_weaker R S weaker (a ∷ xs) (b ∷ ys) all = (weaker a b all.0, zip_weaker R S weaker xs ys all.1)

pub zip_length : {A B : Type 0} (R : A → B → Type 0) (xs : List A) (ys : List B) → AllZip R xs ys → length ys ≡ length xs
zip_length R [] [] all = refl
zip_length R [] (b ∷ ys) all = absurd all
zip_length R (a ∷ xs) [] all = absurd all
zip_length R (a ∷ xs) (b ∷ ys) all = ap suc (zip_length R xs ys all.1)

-- the partner of a member of either list
pub zip_left : {A B : Type 0} (R : A → B → Type 0) (xs : List A) (ys : List B) → AllZip R xs ys → (a : A) → Contains xs a → (b : B) × Contains ys b × R a b
zip_left R [] ys all a c = absurd (omega (arith, c.1))
zip_left R (x ∷ xs) [] all a c = absurd all
zip_left {A} {B} R (x ∷ xs) (y ∷ ys) all a c = by (contains_cases x xs a c) (zip_left R xs ys all.1 a)
  where
    by : (a ≡ x) ⊎ Contains xs a → (Contains xs a → (b : B) × Contains ys b × R a b) → (b : B) × Contains (y ∷ ys) b × R a b
    by (inl e) rec = (y, contains_first y ys, rw e all.0)
    by (inr d) rec = let found : (b : B) × Contains ys b × R a b = rec d in (found.0, contains_later y ys found.0 found.1, found.2)

pub zip_right : {A B : Type 0} (R : A → B → Type 0) (xs : List A) (ys : List B) → AllZip R xs ys → (b : B) → Contains ys b → (a : A) × Contains xs a × R a b
zip_right R xs [] all b c = absurd (omega (arith, c.1))
zip_right R [] (y ∷ ys) all b c = absurd all
zip_right {A} {B} R (x ∷ xs) (y ∷ ys) all b c = by (contains_cases y ys b c) (zip_right R xs ys all.1 b)
  where
    by : (b ≡ y) ⊎ Contains ys b → (Contains ys b → (a : A) × Contains xs a × R a b) → (a : A) × Contains (x ∷ xs) a × R a b
    by (inl e) rec = (x, contains_first x xs, rw e all.0)
    by (inr d) rec = let found : (a : A) × Contains xs a × R a b = rec d in (found.0, contains_later x xs found.0 found.1, found.2)

-- ---- lists made from lists

pub map_contains : {X Y : Type 0} (f : X → Y) (xs : List X) (x : X) → Contains xs x → Contains (map f xs) (f x)
map_contains f [] x c = absurd (omega (arith, c.1))
map_contains f (y ∷ ys) x c = elim (contains_cases y ys x c) [
  | inl e ↦ subst (λ (z : _). Contains (map f (y ∷ ys)) (f z)) (sym e) (contains_first (f y) (map f ys))
  | inr d ↦ contains_later (f y) (map f ys) (f x) (map_contains f ys x d)
]

pub map_from : {X Y : Type 0} (f : X → Y) (xs : List X) (y : Y) → Contains (map f xs) y → (x : X) × Contains xs x × (y ≡ f x)
map_from f [] y c = absurd (omega (arith, c.1))
map_from f (x ∷ xs) y c = elim (contains_cases (f x) (map f xs) y c) [
  | inl e ↦ (x, contains_first x xs, e)
  | inr d ↦ let found = map_from f xs y d in (found.0, contains_later x xs found.0 found.1, found.2)
]

-- what a filter keeps
pub kept_is : {X : Type 0} (p : X → Bool) (xs : List X) (x : X) → Contains (filter p xs) x → Contains xs x × (p x ≡ true)
kept_is p [] x c = absurd (omega (arith, c.1))
kept_is {X} p (y ∷ ys) x c = by (p y) refl (kept_is p ys x) c
  where
    by : (b : Bool) → p y ≡ b → (Contains (filter p ys) x → Contains ys x × (p x ≡ true))
        → Contains (if b then y ∷ filter p ys else filter p ys) x → Contains (y ∷ ys) x × (p x ≡ true)
    by true e rest c = elim (contains_cases y (filter p ys) x c) [
      | inl same ↦ (subst (λ (z : X). Contains (z ∷ ys) x) same (contains_first x ys), subst (λ (z : X). p z ≡ true) (sym same) e)
      | inr d ↦ (let k = rest d in (contains_later y ys x k.0, k.1))
    ]
    by false e rest c = let k = rest c in (contains_later y ys x k.0, k.1)

pub kept_in : {X : Type 0} (p : X → Bool) (xs : List X) (x : X) → Contains xs x → p x ≡ true → Contains (filter p xs) x
kept_in p [] x c is = absurd (omega (arith, c.1))
kept_in {X} p (y ∷ ys) x c is = by (p y) refl (λ d. kept_in p ys x d is) (contains_cases y ys x c)
  where
    by : (b : Bool) → p y ≡ b → (Contains ys x → Contains (filter p ys) x) → (x ≡ y) ⊎ Contains ys x → Contains (if b then y ∷ filter p ys else filter p ys) x
    by true e rest (inl same) = subst (λ (z : X). Contains (z ∷ filter p ys) x) same (contains_first x (filter p ys))
    by true e rest (inr d) = contains_later y (filter p ys) x (rest d)
    by false e rest (inl same) = absurd (let out : p x ≡ false = subst (λ (z : X). p z ≡ false) (sym same) e in let both : true ≡ false = sym is ∙ out in cc)
    by false e rest (inr d) = rest d

-- what a part has is in the whole, and what is in the whole some part has
pub flat_there : {X Y : Type 0} (f : X → List Y) (xs : List X) (x : X) (y : Y) → Contains xs x → Contains (f x) y → Contains (flat_map f xs) y
flat_there f [] x y c d = absurd (omega (arith, c.1))
flat_there f (z ∷ zs) x y c d = elim (contains_cases z zs x c) [
  | inl e ↦ Contains-append_left (f z) (flat_map f zs) y (subst (λ (w : _). Contains (f w) y) e d)
  | inr rest ↦ Contains-append_right (f z) (flat_map f zs) y (flat_there f zs x y rest d)
]

pub flat_part : {X Y : Type 0} (f : X → List Y) (xs : List X) (y : Y) → Contains (flat_map f xs) y → (x : X) × Contains xs x × Contains (f x) y
flat_part f [] y c = absurd (omega (arith, c.1))
flat_part f (z ∷ zs) y c = elim (Contains-append_cases (f z) (flat_map f zs) y c) [
  | inl d ↦ (z, contains_first z zs, d)
  | inr d ↦ (let p = flat_part f zs y d in (p.0, contains_later z zs p.0 p.1, p.2))
]
