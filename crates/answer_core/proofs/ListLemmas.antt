-- Lists that go together, place by place.
use Rattle.std.proofs.Common.{◌≡◌, ◌↔◌, inl, inr, ℕ, zero, suc, ◌+◌, ◌<◌, List, [], ◌∷◌, ◌++◌, map, length, take, drop, set, get_or, option_map, Vec, Global, All, Contains, slice_get, Some, refl, sym, ◌∙◌, ap, subst, arith, add-one}
use Rattle.std.specs.List.{AllZip}
use Rattle.std.proofs.Math.Seq.{take-append_seam}
use Rattle.std.proofs.lemmas.List.{append_assoc, map-append, take_more}
use Rattle.std.proofs.lemmas.List.Elements.{All-contains, Contains-append_cases, Contains-append_left, Contains-append_right, Contains-push, Contains-push_cases}
use Rattle.std.proofs.lemmas.Option.{slice_get-map, slice_get_read}
use Rattle.dl_base.proofs.PlaceLemmas.{member_at, place_of, some_same}
use Rattle.answer_core.specs.Ranks.{IsInRow, items_of}

-- an item is at some place
pub at_place : {X : Type 0} (xs : List X) (x : X) → Contains xs x → (k : ℕ) × (k < length xs) × (slice_get xs k ≡ Some x)
at_place xs x c = (c.0, c.1, place_of xs x c)

-- one more of both
pub zip_next : {A B : Type 0} (R : A → B → Type 0) (xs : List A) (ys : List B) (i : ℕ) (x : A) (y : B)
    → AllZip R (take i xs) ys → slice_get xs i ≡ Some x → R x y → AllZip R (take (suc i) xs) (ys ++ y ∷ [])
zip_next R [] ys i x y zip at r = absurd cc
zip_next R (z ∷ zs) [] zero x y zip at r = (subst (λ (w : _). R w y) (sym (some_same at)) r, tt)
zip_next R (z ∷ zs) (v ∷ vs) zero x y zip at r = absurd zip
zip_next R (z ∷ zs) [] (suc i) x y zip at r = absurd zip
zip_next R (z ∷ zs) (v ∷ vs) (suc i) x y zip at r = (zip.0, zip_next R zs vs i x y zip.1 at r)

pub zip_more : {A B : Type 0} (R : A → B → Type 0) (xs : List A) (ys : List B) (i : ℕ) (x : A) (y : B)
    → AllZip R (take i xs) ys → slice_get xs i ≡ Some x → R x y → AllZip R (take (i + 1) xs) (ys ++ y ∷ [])
zip_more R xs ys i x y zip at r = rw add-one (zip_next R xs ys i x y zip at r)

-- what goes together at a place
pub zip_at : {A B : Type 0} (R : A → B → Type 0) (xs : List A) (ys : List B) (k : ℕ) (x : A) → AllZip R xs ys → slice_get xs k ≡ Some x
    → (y : B) × (slice_get ys k ≡ Some y) × R x y
zip_at R [] ys k x zip at = absurd cc
zip_at R (z ∷ zs) [] k x zip at = absurd zip
zip_at R (z ∷ zs) (v ∷ vs) zero x zip at = (v, refl, subst (λ (w : _). R w v) (some_same at) zip.0)
zip_at R (z ∷ zs) (v ∷ vs) (suc k) x zip at = zip_at R zs vs k x zip.1 at

pub zip_back : {A B : Type 0} (R : A → B → Type 0) (xs : List A) (ys : List B) (k : ℕ) (y : B) → AllZip R xs ys → slice_get ys k ≡ Some y
    → (x : A) × (slice_get xs k ≡ Some x) × R x y
zip_back R [] [] k y zip at = absurd cc
zip_back R [] (v ∷ vs) k y zip at = absurd zip
zip_back R (z ∷ zs) [] k y zip at = absurd zip
zip_back R (z ∷ zs) (v ∷ vs) zero y zip at = (z, refl, subst (λ (w : _). R z w) (some_same at) zip.0)
zip_back R (z ∷ zs) (v ∷ vs) (suc k) y zip at = zip_back R zs vs k y zip.1 at

-- from each place
pub zip_each : {A B : Type 0} (R : A → B → Type 0) (xs : List A) (ys : List B) → length xs ≡ length ys
    → ((k : ℕ) (x : A) (y : B) → slice_get xs k ≡ Some x → slice_get ys k ≡ Some y → R x y) → AllZip R xs ys
zip_each R [] [] long each = tt
zip_each R [] (y ∷ ys) long each = absurd (omega (arith, long))
zip_each R (x ∷ xs) [] long each = absurd (omega (arith, long))
zip_each R (x ∷ xs) (y ∷ ys) long each = (each 0 x y refl refl, zip_each R xs ys (omega (arith, long)) (λ k. each (suc k)))

-- one more item is mapped in its place
mapped_at : (f : ℕ → ℕ) (xs : List ℕ) (i : ℕ) → i < length xs
    → set (map f (take i xs) ++ drop i xs) i (f (get_or (map f (take i xs) ++ drop i xs) i 0)) ≡ map f (take (suc i) xs) ++ drop (suc i) xs
mapped_at f [] i below = absurd (omega arith)
mapped_at f (x ∷ xs) zero below = refl
mapped_at f (x ∷ xs) (suc i) below = ap (λ ys. f x ∷ ys) (mapped_at f xs i (omega arith))

pub mapped_put : (f : ℕ → ℕ) (xs ys : List ℕ) (i : ℕ) → ys ≡ map f (take i xs) ++ drop i xs → i < length xs
    → set ys i (f (get_or ys i 0)) ≡ map f (take (i + 1) xs) ++ drop (i + 1) xs
mapped_put f xs ys i is below = rw (is, add-one) (mapped_at f xs i below)

-- an item is at its place in what is mapped
pub mapped_read : {A B : Type 0} (f : A → B) (xs : List A) (i : ℕ) (x : A) → i < length xs → x ≡ get_or xs i x → slice_get (map f xs) i ≡ Some (f x)
mapped_read f xs i x below is = slice_get-map f xs i ∙ ap (option_map f) (slice_get_read xs (length xs) i x refl below is)

-- what holds of each list in the vectors holds of that in one of them
pub all_row : (P : List ℕ → Type 0) (rows : List (Vec ℕ Global)) (i : ℕ) (row : Vec ℕ Global) → All P (items_of rows) → i < length rows → row ≡ get_or rows i row → P row.items
all_row P rows i row all below is = All-contains P (items_of rows) row.items all (member_at (items_of rows) i row.items (mapped_read (λ (r : Vec ℕ Global). r.items) rows i row below is))

-- the numbers of one more list
pub in_rows_more : (keys : List (Vec ℕ Global)) (i : ℕ) (key : Vec ℕ Global) (numbers : List ℕ) → i < length keys → key ≡ get_or keys i key → ((n : ℕ) → Contains numbers n ↔ IsInRow (items_of (take i keys)) n)
    → (n : ℕ) → Contains (numbers ++ key.items) n ↔ IsInRow (items_of (take (i + 1) keys)) n
in_rows_more keys i key numbers below is each n = (to, from)
  where
    more : items_of (take (i + 1) keys) ≡ items_of (take i keys) ++ key.items ∷ []
    more = ap items_of (take_more keys i key below) ∙ ap (λ (k : Vec ℕ Global). items_of (take i keys ++ k ∷ [])) (sym is) ∙ map-append (λ (r : Vec ℕ Global). r.items) (take i keys) (key ∷ [])

    to : Contains (numbers ++ key.items) n → IsInRow (items_of (take (i + 1) keys)) n
    to there = subst (λ (rows : List (List ℕ)). IsInRow rows n) (sym more) (elim (Contains-append_cases numbers key.items n there) [
      | inl old ↦ (let row = (each n).0 old in (row.0, Contains-append_left (items_of (take i keys)) (key.items ∷ []) row.0 row.1, row.2))
      | inr new ↦ (key.items, Contains-push (items_of (take i keys)) key.items, new)
    ])

    from : IsInRow (items_of (take (i + 1) keys)) n → Contains (numbers ++ key.items) n
    from row = elim (Contains-push_cases (items_of (take i keys)) key.items row.0 (subst (λ (rows : List (List ℕ)). Contains rows row.0) more row.1)) [
      | inl old ↦ Contains-append_left numbers key.items n ((each n).1 (row.0, old, row.2))
      | inr same ↦ Contains-append_right numbers key.items n (subst (λ (r : List ℕ). Contains r n) (sym same) row.2)
    ]

-- one more list is mapped and moved
pub row_moved : (f : List ℕ → List ℕ) (rows new left rest : List (Vec ℕ Global)) (key moved : Vec ℕ Global) (all : List (List ℕ)) → items_of rows ++ map f (items_of left) ≡ all → left ≡ key ∷ rest
    → new ≡ rows ++ moved ∷ [] → moved.items ≡ f key.items → items_of new ++ map f (items_of rest) ≡ all
row_moved f rows new left rest key moved all whole front grown is =
    let reads : items_of new ≡ items_of rows ++ f key.items ∷ [] = ap items_of grown ∙ map-append (λ (r : Vec ℕ Global). r.items) rows (moved ∷ []) ∙ ap (λ (x : List ℕ). items_of rows ++ x ∷ []) is in
    ap (λ (rs : List (List ℕ)). rs ++ map f (items_of rest)) reads ∙ append_assoc (items_of rows) (f key.items ∷ []) (map f (items_of rest))
    ∙ ap (λ (ks : List (Vec ℕ Global)). items_of rows ++ map f (items_of ks)) (sym front) ∙ whole

-- what a whole slice of a vector is overwritten with
pub written : {X : Type 0} (n : ℕ) (new old : List X) → length new ≡ n → take n (new ++ drop (length new) old) ≡ new
written {X} n new old long = subst (λ (m : ℕ). take m (new ++ drop (length new) old) ≡ new) long (take-append_seam new (drop (length new) old))
