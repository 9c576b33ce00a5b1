-- Lists of images that are beyond a place among the levels.
use Rattle.std.proofs.Common.{◌≡◌, ◌≤◌, suc, ◌⊎◌, inl, inr, List, [], ◌∷◌, ◌++◌, Option, Some, None, ℕ, zero, take, length, refl, ap, subst, arith}
use Rattle.std.specs.Cmp.Lexicographic.{slice_cmp}
use Rattle.std.specs.Ordering.{ordering_then}
use Rattle.std.specs.declared.cmp.Ordering.{Ordering}
use Rattle.std.specs.declared.cmp.Ordering.TheVariants.{Less, Equal, Greater}
use Rattle.std.proofs.lemmas.Cmp.{tied_itself}
use Rattle.dl_base.specs.Tables.{IsAbove, elem_cmp}
use Rattle.dl_base.specs.declared.element.Elem.{Elem}
use Rattle.dl_base.proofs.ElemLemmas.{elem_total, elem_same}
use Rattle.join_ops.specs.Levels.{IsBeyond}

above_through : (after : Option Elem) (e x : Elem) → IsAbove after e → elem_cmp e x ≡ Less → IsAbove after x
above_through None e x h q = tt
above_through (Some a) e x h q = elem_total.trans a e x h q

-- a level deeper, where no element of the level that continues the images is below this one
pub deeper_beyond : (front : List Elem) (after : Option Elem) (e : Elem) (images : List Elem) → IsBeyond front after images
    → ((m : Elem) (rest : List Elem) → images ≡ front ++ m ∷ rest → IsAbove after m → elem_cmp e m ≡ Greater → ⊥)
    → suc (suc (length front)) ≤ length images → IsBeyond (front ++ e ∷ []) None images
deeper_beyond [] after e [] h least long = absurd h
deeper_beyond [] after e (x ∷ []) h least long = absurd (omega arith)
deeper_beyond [] after e (x ∷ y ∷ ys) h least long = by (elem_cmp e x) refl
  where
    by : (r : Ordering) → elem_cmp e x ≡ r → (elem_cmp e x ≡ Less) ⊎ ((e ≡ x) × Unit {0})
    by Less q = inl q
    by Equal q = inr (elem_same e x q, tt)
    by Greater q = absurd (least x (y ∷ ys) refl h q)
deeper_beyond (f ∷ fs) after e [] h least long = absurd h
deeper_beyond (f ∷ fs) after e (x ∷ xs) (inl q) least long = inl q
deeper_beyond (f ∷ fs) after e (x ∷ xs) (inr h) least long =
    inr (h.0, deeper_beyond fs after e xs h.1 (λ m rest is. least m rest (cc (h.0, is))) (omega arith))

-- what is beyond a level deeper is beyond the level
pub deeper_within : (front : List Elem) (after : Option Elem) (e : Elem) (images : List Elem) → IsAbove after e → IsBeyond (front ++ e ∷ []) None images → IsBeyond front after images
deeper_within [] after e [] over h = absurd h
deeper_within [] after e (x ∷ xs) over (inl q) = above_through after e x over q
deeper_within [] after e (x ∷ xs) over (inr h) = subst (IsAbove after) h.0 over
deeper_within (f ∷ fs) after e [] over h = absurd h
deeper_within (f ∷ fs) after e (x ∷ xs) over (inl q) = inl q
deeper_within (f ∷ fs) after e (x ∷ xs) over (inr h) = inr (h.0, deeper_within fs after e xs over h.1)

-- a level back, where no element of the level continues the images
pub back_beyond : (front : List Elem) (a : Elem) (after : Option Elem) (images : List Elem) → IsBeyond (front ++ a ∷ []) after images
    → ((m : Elem) (rest : List Elem) → images ≡ (front ++ a ∷ []) ++ m ∷ rest → IsAbove after m → ⊥)
    → IsBeyond front (Some a) images
back_beyond [] a after [] h none = absurd h
back_beyond [] a after (x ∷ xs) (inl q) none = q
back_beyond [] a after (x ∷ []) (inr h) none = absurd h.1
back_beyond [] a after (x ∷ m ∷ rest) (inr h) none = absurd (none m rest (cc (h.0)) h.1)
back_beyond (f ∷ fs) a after [] h none = absurd h
back_beyond (f ∷ fs) a after (x ∷ xs) (inl q) none = inl q
back_beyond (f ∷ fs) a after (x ∷ xs) (inr h) none = inr (h.0, back_beyond fs a after xs h.1 (λ m rest is. none m rest (cc (h.0, is))))

pub back_within : (front : List Elem) (a : Elem) (after : Option Elem) (images : List Elem) → IsBeyond front (Some a) images → IsBeyond (front ++ a ∷ []) after images
back_within [] a after [] h = absurd h
back_within [] a after (x ∷ xs) h = inl h
back_within (f ∷ fs) a after [] h = absurd h
back_within (f ∷ fs) a after (x ∷ xs) (inl q) = inl q
back_within (f ∷ fs) a after (x ∷ xs) (inr h) = inr (h.0, back_within fs a after xs h.1)

less_first : (f x : Elem) (fs xs : List Elem) → elem_cmp f x ≡ Less → slice_cmp elem_cmp (f ∷ fs) (x ∷ xs) ≡ Less
less_first f x fs xs q = ap (λ r. ordering_then r (slice_cmp elem_cmp fs xs)) q

less_later : (f x : Elem) (fs xs : List Elem) → f ≡ x → slice_cmp elem_cmp fs xs ≡ Less → slice_cmp elem_cmp (f ∷ fs) (x ∷ xs) ≡ Less
less_later f x fs xs q h =
    let same : elem_cmp f x ≡ Equal = subst (λ z. elem_cmp f z ≡ Equal) q (tied_itself elem_total f) in
    rw same h

-- at the last level the least element that continues gives the least images
pub last_least : (front : List Elem) (after : Option Elem) (e : Elem) (images : List Elem) → IsBeyond front after images
    → ((m : Elem) (rest : List Elem) → images ≡ front ++ m ∷ rest → IsAbove after m → elem_cmp e m ≡ Greater → ⊥)
    → length images ≡ suc (length front) → (front ++ e ∷ [] ≡ images) ⊎ (slice_cmp elem_cmp (front ++ e ∷ []) images ≡ Less)
last_least [] after e [] h least long = absurd h
last_least [] after e (x ∷ y ∷ ys) h least long = absurd (omega arith)
last_least [] after e (x ∷ []) h least long = by (elem_cmp e x) refl
  where
    by : (r : Ordering) → elem_cmp e x ≡ r → (e ∷ [] ≡ x ∷ []) ⊎ (slice_cmp elem_cmp (e ∷ []) (x ∷ []) ≡ Less)
    by Less q = inr (less_first e x [] [] q)
    by Equal q = inl (ap (λ z. z ∷ []) (elem_same e x q))
    by Greater q = absurd (least x [] refl h q)
last_least (f ∷ fs) after e [] h least long = absurd h
last_least (f ∷ fs) after e (x ∷ xs) (inl q) least long = inr (less_first f x (fs ++ e ∷ []) xs q)
last_least (f ∷ fs) after e (x ∷ xs) (inr h) least long = by (last_least fs after e xs h.1 (λ m rest is. least m rest (cc (h.0, is))) (omega arith))
  where
    by : (fs ++ e ∷ [] ≡ xs) ⊎ (slice_cmp elem_cmp (fs ++ e ∷ []) xs ≡ Less) → (f ∷ (fs ++ e ∷ []) ≡ x ∷ xs) ⊎ (slice_cmp elem_cmp (f ∷ (fs ++ e ∷ [])) (x ∷ xs) ≡ Less)
    by (inl same) = inl (cc (h.0, same))
    by (inr less) = inr (less_later f x (fs ++ e ∷ []) xs h.0 less)

pub last_beyond : (front : List Elem) (after : Option Elem) (e : Elem) → IsAbove after e → IsBeyond front after (front ++ e ∷ [])
last_beyond [] after e over = over
last_beyond (f ∷ fs) after e over = inr (refl, last_beyond fs after e over)

-- behind images is beyond their last level
pub behind_beyond : (front : List Elem) (a : Elem) (images : List Elem) → length images ≡ suc (length front) → slice_cmp elem_cmp (front ++ a ∷ []) images ≡ Less → IsBeyond front (Some a) images
behind_beyond [] a [] long h = absurd (omega arith)
behind_beyond [] a (x ∷ y ∷ ys) long h = absurd (omega arith)
behind_beyond [] a (x ∷ []) long h = by (elem_cmp a x) refl h
  where
    by : (r : Ordering) → elem_cmp a x ≡ r → ordering_then r Equal ≡ Less → elem_cmp a x ≡ Less
    by Less q h = q
    by Equal q h = absurd cc
    by Greater q h = absurd cc
behind_beyond (f ∷ fs) a [] long h = absurd (omega arith)
behind_beyond (f ∷ fs) a (x ∷ xs) long h = by (elem_cmp f x) refl h (behind_beyond fs a xs (omega arith))
  where
    by : (r : Ordering) → elem_cmp f x ≡ r → ordering_then r (slice_cmp elem_cmp (fs ++ a ∷ []) xs) ≡ Less
        → (slice_cmp elem_cmp (fs ++ a ∷ []) xs ≡ Less → IsBeyond fs (Some a) xs) → (elem_cmp f x ≡ Less) ⊎ ((f ≡ x) × IsBeyond fs (Some a) xs)
    by Less q h more = inl q
    by Equal q h more = inr (elem_same f x q, more h)
    by Greater q h more = absurd (cc)

pub beyond_behind : (front : List Elem) (a : Elem) (images : List Elem) → length images ≡ suc (length front) → IsBeyond front (Some a) images → slice_cmp elem_cmp (front ++ a ∷ []) images ≡ Less
beyond_behind [] a [] long h = absurd h
beyond_behind [] a (x ∷ xs) long h = less_first a x [] xs h
beyond_behind (f ∷ fs) a [] long h = absurd h
beyond_behind (f ∷ fs) a (x ∷ xs) long (inl q) = less_first f x (fs ++ a ∷ []) xs q
beyond_behind (f ∷ fs) a (x ∷ xs) long (inr h) = less_later f x (fs ++ a ∷ []) xs h.0 (beyond_behind fs a xs (omega arith) h.1)

-- what is beyond a level is told by the images up to that level
pub beyond_whole : (front : List Elem) (after : Option Elem) (images : List Elem) → IsBeyond front after (take (suc (length front)) images) → IsBeyond front after images
beyond_whole [] after [] h = absurd h
beyond_whole [] after (x ∷ xs) h = h
beyond_whole (f ∷ fs) after [] h = absurd h
beyond_whole (f ∷ fs) after (x ∷ xs) (inl q) = inl q
beyond_whole (f ∷ fs) after (x ∷ xs) (inr h) = inr (h.0, beyond_whole fs after xs h.1)

pub beyond_cut : (front : List Elem) (after : Option Elem) (images : List Elem) → IsBeyond front after images → IsBeyond front after (take (suc (length front)) images)
beyond_cut [] after [] h = absurd h
beyond_cut [] after (x ∷ xs) h = h
beyond_cut (f ∷ fs) after [] h = absurd h
beyond_cut (f ∷ fs) after (x ∷ xs) (inl q) = inl q
beyond_cut (f ∷ fs) after (x ∷ xs) (inr h) = inr (h.0, beyond_cut fs after xs h.1)

-- of rising images the first ones are the same or rise
pub take_rises : (n : ℕ) (xs ys : List Elem) → slice_cmp elem_cmp xs ys ≡ Less → (take n xs ≡ take n ys) ⊎ (slice_cmp elem_cmp (take n xs) (take n ys) ≡ Less)
take_rises zero xs ys h = inl refl
take_rises (suc n) [] [] h = absurd cc
take_rises (suc n) [] (y ∷ ys) h = inr h
take_rises (suc n) (x ∷ xs) [] h = absurd cc
take_rises (suc n) (x ∷ xs) (y ∷ ys) h = by (elem_cmp x y) refl h (take_rises n xs ys)
  where
    by : (r : Ordering) → elem_cmp x y ≡ r → ordering_then r (slice_cmp elem_cmp xs ys) ≡ Less
        → (slice_cmp elem_cmp xs ys ≡ Less → (take n xs ≡ take n ys) ⊎ (slice_cmp elem_cmp (take n xs) (take n ys) ≡ Less))
        → (x ∷ take n xs ≡ y ∷ take n ys) ⊎ (slice_cmp elem_cmp (x ∷ take n xs) (y ∷ take n ys) ≡ Less)
    by Less q h more = inr (less_first x y (take n xs) (take n ys) q)
    by Equal q h more = elim (more h) [
      | inl same ↦ inl (let e = elem_same x y q in cc (e, same))
      | inr less ↦ inr (less_later x y (take n xs) (take n ys) (elem_same x y q) less)
    ]
    by Greater q h more = absurd cc

-- where the first ones rise, all do
pub take_less : (n : ℕ) (xs ys : List Elem) → slice_cmp elem_cmp (take n xs) (take n ys) ≡ Less → slice_cmp elem_cmp xs ys ≡ Less
take_less zero xs ys h = absurd cc
take_less (suc n) [] [] h = absurd cc
take_less (suc n) [] (y ∷ ys) h = h
take_less (suc n) (x ∷ xs) [] h = absurd cc
take_less (suc n) (x ∷ xs) (y ∷ ys) h = by (elem_cmp x y) refl h (take_less n xs ys)
  where
    by : (r : Ordering) → elem_cmp x y ≡ r → ordering_then r (slice_cmp elem_cmp (take n xs) (take n ys)) ≡ Less
        → (slice_cmp elem_cmp (take n xs) (take n ys) ≡ Less → slice_cmp elem_cmp xs ys ≡ Less) → slice_cmp elem_cmp (x ∷ xs) (y ∷ ys) ≡ Less
    by Less q h more = less_first x y xs ys q
    by Equal q h more = less_later x y xs ys (elem_same x y q) (more h)
    by Greater q h more = absurd cc
