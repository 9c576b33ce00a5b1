-- The steps of a search over the list in which it keeps the images.
use Rattle.std.proofs.Common.{◌≡◌, ◌≤◌, ◌<◌, ◌+◌, ◌-◌, min, ◌⊎◌, inl, inr, ℕ, zero, suc, List, [], ◌∷◌, ◌++◌, Option, Some, None, length, map, take, slice_get, get_or, refl, sym, ap, ◌∙◌, subst, arith}
use Rattle.std.proofs.Math.ListN.{drop, set}
use Rattle.std.proofs.Math.Seq.{take-length, take-suc}
use Rattle.std.proofs.lemmas.List.{append_assoc, take_more_set, length-take-le, length-set, take-append-drop}
use Rattle.std.proofs.lemmas.Option.{slice_get-get_or}
use Rattle.dl_base.specs.Tables.{TableRow, IsLeastAbove}
use Rattle.dl_base.specs.declared.element.Elem.{Elem}
use Rattle.join_ops.specs.Joins.{SearchPlace, Start, Behind, Past, IsFound, IsBehindPlace}
use Rattle.join_ops.specs.Levels.{fixed_on, Fits, IsAtFront, IsLeast, IsSearch, IsWellPlaced}
use Rattle.join_ops.specs.declared.condition.Condition.{Condition}
use Rattle.join_ops.specs.declared.level.Level.{Level}
use Rattle.join_ops.proofs.LevelLemmas.{level_within, goes_deeper, goes_back, gives_least, gives_none, starts, stands, stands_past}
use Rattle.join_ops.proofs.Rooms.{room_falls, known_all, offered_known_all}
use Rattle.join_ops.proofs.Weights.{weight, deeper_falls, back_falls}

pub take_all : {X : Type 0} (n : ℕ) (xs : List X) → length xs ≤ n → take n xs ≡ xs
take_all zero [] most = refl
take_all zero (x ∷ xs) most = absurd (omega (arith, most))
take_all (suc n) [] most = refl
take_all (suc n) (x ∷ xs) most = ap (λ ys. x ∷ ys) (take_all n xs (omega (arith, most)))

set_last : (images : List Elem) (level : ℕ) (e : Elem) → level + 1 ≡ length (set images level e) → level < length images → set images level e ≡ take level images ++ e ∷ []
set_last images level e last below =
    let whole = take-length (set images level e) in
    let more = take_more_set images level e below in
    sym whole ∙ ap (λ (n : ℕ). take n (set images level e)) (sym last) ∙ more

take_back : (images : List Elem) (level : ℕ) (d : Elem) → level < length images → (level ≡ 0 → ⊥) → take level images ≡ take (level - 1) images ++ get_or images (level - 1) d ∷ []
take_back images level d below some =
    let same : level ≡ suc (level - 1) = omega arith in
    let less : level - 1 < length images = omega arith in
    ap (λ (n : ℕ). take n images) same ∙ take-suc images (level - 1) d less

module _ (table : List TableRow) (conditions : List Condition) (levels : List Level) (images : List Elem) (level : ℕ) (below : level < length images) (search : IsSearch conditions levels (length images)) where
  long : length (take level images) ≡ level
  long = length-take-le level images (omega arith)

  within : level < length levels
  within = omega (arith, search.each)

  level_is : (l : Level) → l ≡ get_or levels level l → slice_get levels (length (take level images)) ≡ Some l
  level_is l at = rw long (slice_get-get_or levels level l within ∙ ap Some (sym at))

  -- what a level offers and tests has its elements
  pub sound_step : (l : Level) → l ≡ get_or levels level l → IsWellPlaced conditions (length (take level images)) l
  sound_step l at =
      let is = search.levels_are (length (take level images)) l (level_is l at) in
      record { within = level_within conditions (length (take level images)) l is; under = is.checks_are.under }

  pub deeper_step : (place : SearchPlace) (after : Option Elem) (e : Elem) (l : Level) → l ≡ get_or levels level l → (level + 1 ≡ length (set images level e) → ⊥)
      → IsLeastAbove (Fits table conditions l (take level images)) after (Some e)
      → IsAtFront table conditions (map fixed_on levels) place (take level images) after → IsAtFront table conditions (map fixed_on levels) place (take (level + 1) (set images level e)) None
  deeper_step place after e l at more least is =
      let next = goes_deeper table conditions levels search.levels_are place (take level images) after e l (level_is l at)
      (omega (arith, long, search.each, more, length-set images level e)) least is in
      rw (take_more_set images level e below) next

  pub deeper_smaller : (after : Option Elem) (e : Elem) (l : Level) → l ≡ get_or levels level l → (level + 1 ≡ length (set images level e) → ⊥)
      → IsLeastAbove (Fits table conditions l (take level images)) after (Some e)
      → weight (known_all table levels) (take (level + 1) (set images level e)) None (length (set images level e) - (level + 1)) < weight (known_all table levels) (take level images) after (length images - level)
  deeper_smaller after e l at more least =
      let known = known_all table levels in
      let less = room_falls known after e least.1 (offered_known_all table levels level l (take level images) e (slice_get-get_or levels level l within ∙ ap Some (sym at)) least.0.offered) in
      let falls = deeper_falls known (take level images) after e (length images - (level + 1)) less in
      let levels : length images - level ≡ suc (length images - (level + 1)) = omega arith in
      rw (take_more_set images level e below, length-set images level e, levels) falls

  pub last_step : (place : SearchPlace) (after : Option Elem) (e : Elem) (l : Level) → l ≡ get_or levels level l → level + 1 ≡ length (set images level e)
      → IsLeastAbove (Fits table conditions l (take level images)) after (Some e)
      → IsAtFront table conditions (map fixed_on levels) place (take level images) after → IsLeast table conditions (map fixed_on levels) place (set images level e)
  last_step place after e l at last least is =
      let found = gives_least table conditions levels search.levels_are place (take level images) after e l (level_is l at)
      (omega (arith, long, search.each, last, length-set images level e)) (λ a c. rw search.each (search.under a c)) least is in
      rw (set_last images level e last below) found

  pub back_step : (place : SearchPlace) (after : Option Elem) (l : Level) → l ≡ get_or levels level l → (x : Elem) → (level ≡ 0 → ⊥)
      → IsLeastAbove (Fits table conditions l (take level images)) after None
      → IsAtFront table conditions (map fixed_on levels) place (take level images) after → IsAtFront table conditions (map fixed_on levels) place (take (level - 1) images) (Some (get_or images (level - 1) x))
  back_step place after l at x some none is =
      let front = take_back images level x below some in
      goes_back table conditions levels search.levels_are place (take (level - 1) images) (get_or images (level - 1) x) after l
      (rw (← front) (level_is l at))
      (rw (← front) none) (rw (← front) is)

  pub back_smaller : (after : Option Elem) (x : Elem) → (level ≡ 0 → ⊥)
      → weight (known_all table levels) (take (level - 1) images) (Some (get_or images (level - 1) x)) (length images - (level - 1)) < weight (known_all table levels) (take level images) after (length images - level)
  back_smaller after x some =
      let falls = back_falls (known_all table levels) (take (level - 1) images) after (get_or images (level - 1) x) (length images - level) in
      let levels : length images - (level - 1) ≡ suc (length images - level) = omega arith in
      rw (take_back images level x below some, levels) falls

  pub none_step : (place : SearchPlace) (after : Option Elem) (l : Level) → l ≡ get_or levels level l → level ≡ 0
      → IsLeastAbove (Fits table conditions l (take level images)) after None
      → IsAtFront table conditions (map fixed_on levels) place (take level images) after
      → (others : List Elem) → IsFound table conditions (map fixed_on levels) others → IsBehindPlace place others → ⊥
  none_step place after l at first none is =
      let begin : slice_get levels 0 ≡ Some l = ap (λ (n : ℕ). slice_get levels n) (sym first) ∙ slice_get-get_or levels level l within ∙ ap Some (sym at) in
      let front : take level images ≡ [] = ap (λ (n : ℕ). take n images) first in
      gives_none table conditions levels search.levels_are place after l begin
      (rw (← front) none) (rw (← front) is)

pub search_along : (conditions : List Condition) (levels : List Level) (m n : ℕ) → m ≡ n → IsSearch conditions levels m → IsSearch conditions levels n
search_along conditions levels m n same search = subst (λ (k : ℕ). IsSearch conditions levels k) same search

pub deeper_below : (images : List Elem) (level : ℕ) (e : Elem) → level < length images → (level + 1 ≡ length (set images level e) → ⊥) → level + 1 < length (set images level e)
deeper_below images level e below more = omega (arith, length-set images level e)

whole_last : (images : List Elem) (d : Elem) → 1 ≤ length images → images ≡ take (length images - 1) images ++ get_or images (length images - 1) d ∷ []
whole_last images d some =
    let last : suc (length images - 1) ≡ length images = omega arith in
    let less : length images - 1 < length images = omega arith in
    sym (take-length images) ∙ ap (λ (n : ℕ). take n images) (sym last) ∙ take-suc images (length images - 1) d less

-- where a search goes on from the match that it gave last
pub stand_step : (table : List TableRow) (conditions : List Condition) (levels : List Level) (images : List Elem) (d : Elem) → IsSearch conditions levels (length images)
    → IsFound table conditions (map fixed_on levels) images
    → IsAtFront table conditions (map fixed_on levels) (Behind images) (take (length images - 1) images) (Some (get_or images (length images - 1) d))
stand_step table conditions levels images d search found =
    let whole = whole_last images d search.some in
    let front = take (length images - 1) images in
    let a = get_or images (length images - 1) d in
    let long : length front ≡ length images - 1 = length-take-le (length images - 1) images (omega arith) in
    let at = stands table conditions levels search.levels_are front a (omega (arith, long, search.each, search.some)) (subst (IsFound table conditions (map fixed_on levels)) whole found) in
    subst (λ (l : List Elem). IsAtFront table conditions (map fixed_on levels) (Behind l) front (Some a)) (sym whole) at

pub start_step : (table : List TableRow) (conditions : List Condition) (levels : List Level) (n : ℕ) → IsSearch conditions levels n → IsAtFront table conditions (map fixed_on levels) Start [] None
start_step table conditions levels n search = starts table conditions levels search.levels_are (omega (arith, search.each, search.some))

-- so many first ones, or as many as there are
shared_take : {X : Type 0} (n m : ℕ) (xs : List X) → (n ≡ m) ⊎ ((m ≡ length xs) × (m ≤ n)) → take n xs ≡ take m xs
shared_take n m xs (inl same) = ap (λ (k : ℕ). take k xs) same
shared_take n m xs (inr (all, most)) = take_all n xs (omega (arith, all, most)) ∙ sym (take-length xs) ∙ ap (λ (k : ℕ). take k xs) (sym all)

-- where a search goes on behind all that have so many first images as the match that it gave last
pub past_step : (table : List TableRow) (conditions : List Condition) (levels : List Level) (images : List Elem) (d : Elem) (n level : ℕ) → IsSearch conditions levels (length images)
    → IsFound table conditions (map fixed_on levels) images → level < length images → (n ≡ suc level) ⊎ ((suc level ≡ length images) × (suc level ≤ n))
    → IsAtFront table conditions (map fixed_on levels) (Past n images) (take level images) (Some (get_or images level d))
past_step table conditions levels images d n level search found below shared =
    let front = take level images in
    let a = get_or images level d in
    let long : length front ≡ level = length-take-le level images (omega (arith, below)) in
    let parts : images ≡ front ++ a ∷ drop (suc level) images =
    sym (take-append-drop (suc level) images) ∙ ap (λ (l : List Elem). l ++ drop (suc level) images) (take-suc images level d below) ∙ append_assoc front (a ∷ []) (drop (suc level) images) in
    let at = stands_past table conditions levels search.levels_are front a (drop (suc level) images) (subst (IsFound table conditions (map fixed_on levels)) parts found) in
    let here : IsAtFront table conditions (map fixed_on levels) (Past (suc level) images) front (Some a) =
    subst (λ (l : List Elem). IsAtFront table conditions (map fixed_on levels) (Past (suc level) l) front (Some a)) (sym parts)
    (subst (λ (k : ℕ). IsAtFront table conditions (map fixed_on levels) (Past (suc k) (front ++ a ∷ drop (suc level) images)) front (Some a)) long at) in
    record {
      front_is = here.front_is;
      beyond = λ others other behind. here.beyond others other (rw (← same images refl, ← same others (other.count ∙ sym found.count)) behind);
      behind = λ others count over. rw (same images refl, same others (count ∙ sym found.count)) (here.behind others count over);
    }
  where
    same : (others : List Elem) → length others ≡ length images → take n others ≡ take (suc level) others
    same others long = shared_take n (suc level) others (elim shared [ inl e ↦ inl e | inr h ↦ inr (h.0 ∙ sym long, h.1) ])

either_most : (n m : ℕ) → (n ≤ m) ⊎ (m ≤ n)
either_most zero m = inl (omega arith)
either_most (suc n) zero = inr (omega arith)
either_most (suc n) (suc m) = elim (either_most n m) [ inl less ↦ inl (omega (arith, less)) | inr more ↦ inr (omega (arith, more)) ]

-- the least of two numbers, where it isn't 0
pub least_shared : (n long m : ℕ) → m ≡ min n long → (m ≡ 0 → ⊥) → (m - 1 < long) × ((n ≡ suc (m - 1)) ⊎ ((suc (m - 1) ≡ long) × (suc (m - 1) ≤ n)))
least_shared n long m is some = (omega (arith, is, some), elim (either_most n long) [ inl less ↦ inl (omega (arith, is, some, less)) | inr more ↦ inr (omega (arith, is, some, more), omega (arith, is, some, more)) ])
