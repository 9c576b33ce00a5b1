-- Lists with something put at a place of them or at their end, and lists of distinct members.
use Rattle.std.proofs.Common.{◌≡◌, ◌≢◌, ℕ, ◌+◌, ◌<◌, ◌≤◌, List, [], ◌∷◌, ◌++◌, length, get_or, set, take, drop, map, refl, sym, ◌∙◌, ap, inl, inr, arith, add-one, Contains, AllPairs}
use Rattle.std.proofs.lemmas.Bool.{cases_eq, cases_lt}
use Rattle.std.proofs.lemmas.List.{set_split, take_all, take_more, drop_all, length-set, length-take, length-take-le, length_push, get_or_at, get_or-set_other, get_or_append_left, get_or-take, get_or_past, get_or_push, get_or_default, ext_get_or, map-append, take-map, drop-map}
use Rattle.std.proofs.lemmas.List.Elements.{Contains-get_or}
use Rattle.gen_arena.specs.Store.{put_at}

module _ {X : Type 0} where
  pub put_at-within : (xs : List X) (k : ℕ) (x : X) → k < length xs → put_at xs k x ≡ set xs k x
  put_at-within xs k x below = rw add-one (sym (set_split xs k x below))

  pub put_at-end : (xs : List X) (k : ℕ) (x : X) → k ≡ length xs → put_at xs k x ≡ xs ++ x ∷ []
  put_at-end xs k x end =
      let all : take k xs ≡ xs = take_all k xs (omega arith) in
      let none : drop (k + 1) xs ≡ [] = drop_all (k + 1) xs (omega arith) in
      rw (all, none) refl

  pub length-put_at_within : (xs : List X) (k : ℕ) (x : X) → k < length xs → length (put_at xs k x) ≡ length xs
  length-put_at_within xs k x below = ap length (put_at-within xs k x below) ∙ length-set xs k x

  pub length-put_at_end : (xs : List X) (k : ℕ) (x : X) → k ≡ length xs → length (put_at xs k x) ≡ length xs + 1
  length-put_at_end xs k x end = ap length (put_at-end xs k x end) ∙ length_push xs x

  -- it is no shorter, and longer by one at most
  pub length-put_at : (xs : List X) (k : ℕ) (x : X) → k ≤ length xs → (length xs ≤ length (put_at xs k x)) × (length (put_at xs k x) ≤ length xs + 1)
  length-put_at xs k x within =
      elim (cases_lt k (length xs)) [
        | inl below ↦ let same = length-put_at_within xs k x below in (omega arith, omega arith)
        | inr past ↦ let more = length-put_at_end xs k x (omega arith) in (omega arith, omega arith)
      ]

  pub get_or-put_at_same : (xs : List X) (k : ℕ) (x d : X) → k ≤ length xs → get_or (put_at xs k x) k d ≡ x
  get_or-put_at_same xs k x d within = get_or_at (take k xs) x (drop (k + 1) xs) d k (length-take-le k xs within)

  pub get_or-put_at_other : (xs : List X) (k : ℕ) (x : X) (j : ℕ) (d : X) → k ≤ length xs → j ≢ k → get_or (put_at xs k x) j d ≡ get_or xs j d
  get_or-put_at_other xs k x j d within other =
      elim (cases_lt k (length xs)) [
        | inl below ↦ ap (λ (ys : List X). get_or ys j d) (put_at-within xs k x below) ∙ get_or-set_other xs k j x d other
        | inr past ↦
            let pushed : get_or (put_at xs k x) j d ≡ get_or (xs ++ x ∷ []) j d = ap (λ (ys : List X). get_or ys j d) (put_at-end xs k x (omega arith)) in
            elim (cases_lt j (length xs)) [
              | inl before ↦ pushed ∙ get_or_append_left xs (x ∷ []) d j before
              | inr behind ↦
                  let longer = length_push xs x in
                  pushed ∙ get_or_past (xs ++ x ∷ []) j d (omega arith) ∙ sym (get_or_past xs j d behind)
            ]
      ]

  -- two lists that differ at one place alone are one list with the same put there
  pub put_at-agree : (xs ys : List X) (k : ℕ) (x d : X) → length xs ≡ length ys → k ≤ length xs → ((i : ℕ) → i ≢ k → get_or xs i d ≡ get_or ys i d) → put_at xs k x ≡ put_at ys k x
  put_at-agree xs ys k x d long within agree = ext_get_or d (put_at xs k x) (put_at ys k x) lengths each
    where
      lengths : length (put_at xs k x) ≡ length (put_at ys k x)
      lengths =
          elim (cases_lt k (length xs)) [
            | inl below ↦ length-put_at_within xs k x below ∙ long ∙ sym (length-put_at_within ys k x (omega arith))
            | inr past ↦
                let one = length-put_at_end xs k x (omega arith) in
                let other = length-put_at_end ys k x (omega arith) in
                omega arith
          ]

      each : (i : ℕ) → i < length (put_at xs k x) → get_or (put_at xs k x) i d ≡ get_or (put_at ys k x) i d
      each i _ =
          elim (cases_eq i k) [
            | inl here ↦ ap (λ (n : ℕ). get_or (put_at xs k x) n d) here ∙ get_or-put_at_same xs k x d within
                ∙ sym (get_or-put_at_same ys k x d (omega arith)) ∙ ap (λ (n : ℕ). get_or (put_at ys k x) n d) (sym here)
            | inr there ↦ get_or-put_at_other xs k x i d within there ∙ agree i there ∙ sym (get_or-put_at_other ys k x i d (omega arith) there)
          ]

  -- what stands at a place may be put there once more
  pub put_at-same : (xs : List X) (k : ℕ) (x d : X) → k < length xs → get_or xs k d ≡ x → put_at xs k x ≡ xs
  put_at-same xs k x d below stands = ext_get_or d (put_at xs k x) xs (length-put_at_within xs k x below) each
    where
      each : (i : ℕ) → i < length (put_at xs k x) → get_or (put_at xs k x) i d ≡ get_or xs i d
      each i _ =
          elim (cases_eq i k) [
            | inl here ↦ ap (λ (n : ℕ). get_or (put_at xs k x) n d) here ∙ get_or-put_at_same xs k x d (omega arith) ∙ sym stands ∙ ap (λ (n : ℕ). get_or xs n d) (sym here)
            | inr there ↦ get_or-put_at_other xs k x i d (omega arith) there
          ]

  pub map-put_at : {Y : Type 0} (f : X → Y) (xs : List X) (k : ℕ) (x : X) → map f (put_at xs k x) ≡ put_at (map f xs) k (f x)
  map-put_at f xs k x =
      map-append f (take k xs) (x ∷ drop (k + 1) xs) ∙ ap (λ ys. ys ++ f x ∷ map f (drop (k + 1) xs)) (sym (take-map f k xs))
      ∙ ap (λ ys. take k (map f xs) ++ f x ∷ ys) (sym (drop-map f (k + 1) xs))

  -- ---- all but the last

  pub but_last : (xs : List X) (n : ℕ) (d : X) → length xs ≡ n + 1 → xs ≡ take n xs ++ get_or xs n d ∷ []
  but_last xs n d long = sym (take_all (n + 1) xs (omega arith)) ∙ take_more xs n d (omega arith)

  pub Contains-take : (n : ℕ) (xs : List X) (x : X) → Contains (take n xs) x → Contains xs x
  Contains-take n xs x listed =
      let short = length-take n xs in
      let before : listed.0 < n = omega (arith, listed.1) in
      (listed.0, omega (arith, listed.1), sym (get_or-take n xs listed.0 x before) ∙ listed.2)

  pub AllPairs-take : (R : X → X → Type 0) (n : ℕ) (xs : List X) → AllPairs R xs → AllPairs R (take n xs)
  AllPairs-take R n xs pairs i j d before below =
      let short = length-take n xs in
      rw (get_or-take n xs i d (omega arith), get_or-take n xs j d (omega arith)) (pairs i j d before (omega arith))

  pub AllPairs-push : (R : X → X → Type 0) (xs : List X) (y : X) → AllPairs R xs → ((x : X) → Contains xs x → R x y) → AllPairs R (xs ++ y ∷ [])
  AllPairs-push R xs y pairs last i j d before below =
      let long = length_push xs y in
      let first : get_or (xs ++ y ∷ []) i d ≡ get_or xs i d = get_or_append_left xs (y ∷ []) d i (omega arith) in
      elim (cases_lt j (length xs)) [
        | inl inside ↦ rw (first, get_or_append_left xs (y ∷ []) d j inside) (pairs i j d before inside)
        | inr end ↦ rw (first, get_or_push xs y d j (omega arith)) (last (get_or xs i d) (Contains-get_or xs i d (omega arith)))
      ]

  -- of distinct members none but the last is the last
  pub distinct_last : (xs : List X) (n : ℕ) (d x : X) → length xs ≡ n + 1 → AllPairs (λ a b. a ≢ b) xs → Contains (take n xs) x → x ≢ get_or xs n d
  distinct_last xs n d x long distinct listed same =
      let short = length-take n xs in
      let before : listed.0 < n = omega (arith, listed.1) in
      let there : get_or xs listed.0 d ≡ x = get_or_default xs listed.0 d x (omega arith) ∙ sym (get_or-take n xs listed.0 x before) ∙ listed.2 in
      distinct listed.0 n d before (omega arith) (there ∙ same)
