-- Small areas, and what a stop leaves of them.
use Rattle.std.proofs.Common.{◌≡◌, ◌≤◌, ◌<◌, ℕ, zero, suc, List, [], ◌∷◌, length, get_or, inl, ⊎_elim, refl, arith}
use Rattle.host_io.specs.Disk.{IsImage, IsOutside}
use Rattle.host_io.specs.Laws.{CutMayTear, SettledIsItself, WriteMayTear, cut_short, three, written_over}
use Rattle.host_io.proofs.Settled.{first_image, second_image}

pub settled_is_itself : SettledIsItself
settled_is_itself disk first second settled left right = (first_image disk first settled left, second_image disk second settled right)

two_stay : (rest : List ℕ) (i : ℕ) → length rest ≤ 2 → i < length (1 ∷ 2 ∷ rest) → IsOutside ((2, 4) ∷ []) i → get_or (1 ∷ 2 ∷ rest) i 0 ≡ get_or three i 0
two_stay rest zero few lt out = refl
two_stay rest (suc zero) few lt out = refl
two_stay rest (suc (suc i)) few lt out = absurd (⊎_elim (λ below. omega (arith, below)) (λ behind. omega (arith, behind, lt, few)) out.0)

written : (rest : List ℕ) → 1 ≤ length rest → length rest ≤ 2 → IsImage written_over (1 ∷ 2 ∷ rest)
written rest some few = record { no_shorter = omega (arith, some); no_longer = omega (arith, few); outside = λ i lt out. two_stay rest i few lt out }

pub write_may_tear : WriteMayTear
write_may_tear = (
  written (3 ∷ []) (omega arith) (omega arith),
  written (8 ∷ 9 ∷ []) (omega arith) (omega arith),
  written (0 ∷ 7 ∷ []) (omega arith) (omega arith),
  λ image. omega (arith, image.no_shorter),
  λ image. let changed : 7 ≡ 2 = image.outside 1 (omega arith) (inl (omega arith), tt) in omega (arith, changed),
  λ image. omega (arith, image.no_longer),
)

one_stays : (rest : List ℕ) (i : ℕ) → length rest ≤ 2 → i < length (1 ∷ rest) → IsOutside ((1, 3) ∷ []) i → get_or (1 ∷ rest) i 0 ≡ get_or three i 0
one_stays rest zero few lt out = refl
one_stays rest (suc i) few lt out = absurd (⊎_elim (λ below. omega (arith, below)) (λ behind. omega (arith, behind, lt, few)) out.0)

cut : (rest : List ℕ) → length rest ≤ 2 → IsImage cut_short (1 ∷ rest)
cut rest few = record { no_shorter = omega arith; no_longer = omega (arith, few); outside = λ i lt out. one_stays rest i few lt out }

pub cut_may_tear : CutMayTear
cut_may_tear = (
  cut [] (omega arith),
  cut (2 ∷ 3 ∷ []) (omega arith),
  cut (0 ∷ []) (omega arith),
  λ image. omega (arith, image.no_shorter),
  λ image. let changed : 0 ≡ 1 = image.outside 0 (omega arith) (inl (omega arith), tt) in omega (arith, changed),
  λ image. omega (arith, image.no_longer),
)
