-- A number that falls with each step of a search by levels.
use Rattle.std.proofs.Common.{◌≡◌, ◌≤◌, ◌<◌, ◌+◌, ◌*◌, ◌^◌, ℕ, suc, List, [], ◌∷◌, ◌++◌, Option, Some, None, length, refl, ◌∙◌, arith, mul_assoc, mul_comm}
use Rattle.std.proofs.Math.Nat.{mul-le-mul_left, mul-lt-mul_of_pos_right, one-le-pow, pow-suc}
use Rattle.dl_base.specs.declared.element.Elem.{Elem}
use Rattle.join_ops.proofs.Rooms.{room, room_none}

base : List Elem → ℕ
base known = 2 * length known + 3

base_is : (known : List Elem) → base known ≡ 2 * length known + 3
unfolding base
base_is known = refl

base_some : (known : List Elem) → 1 ≤ base known
unfolding base
base_some known = omega arith

-- the levels in front as the digits of a number
entered : List Elem → ℕ → List Elem → ℕ
entered known so_far [] = so_far
entered known so_far (x ∷ xs) = entered known (so_far * base known + (2 * room known (Some x) + 1)) xs

pub weight : List Elem → List Elem → Option Elem → ℕ → ℕ
weight known front after levels = (entered known 0 front * base known + 2 * room known after) * base known ^ levels

entered-append : (known : List Elem) (so_far : ℕ) (front : List Elem) (e : Elem) → entered known so_far (front ++ e ∷ []) ≡ entered known so_far front * base known + (2 * room known (Some e) + 1)
unfolding entered
entered-append known so_far [] e = refl
entered-append known so_far (x ∷ xs) e = entered-append known (so_far * base known + (2 * room known (Some x) + 1)) xs e

scaled : (x y p : ℕ) → 1 ≤ p → x < y → x * p < y * p
scaled x y p some less = mul-lt-mul_of_pos_right less some

deeper_digits : (x b l r top : ℕ) → b ≡ 2 * l + 3 → suc r ≤ top → (x * b + (2 * r + 1)) * b + 2 * suc l < (x * b + 2 * top) * b
deeper_digits x b l r top is falls =
    let whole : x * b + (2 * r + 2) ≤ x * b + 2 * top = omega arith in
    let times = mul-le-mul_left b whole in
    digits (x * b) b l r top is times
  where
    digits : (y b l r top : ℕ) → b ≡ 2 * l + 3 → b * (y + (2 * r + 2)) ≤ b * (y + 2 * top) → (y + (2 * r + 1)) * b + 2 * suc l < (y + 2 * top) * b
    digits y b l r top is times = omega arith

back_digits : (x b r top : ℕ) → 1 ≤ b → (x * b + 2 * r) * b < (x * b + (2 * r + 1)) * b + 2 * top
back_digits x b r top some = digits (x * b) b r top some
  where
    digits : (y b r top : ℕ) → 1 ≤ b → (y + 2 * r) * b < (y + (2 * r + 1)) * b + 2 * top
    digits y b r top some = omega arith

next_power : (b k : ℕ) → b ^ suc k ≡ b * b ^ k
next_power b k = pow-suc b k ∙ mul_comm (b ^ k) b

-- going a level deeper
pub deeper_falls : (known front : List Elem) (after : Option Elem) (e : Elem) (levels : ℕ) → suc (room known (Some e)) ≤ room known after
    → weight known (front ++ e ∷ []) None levels < weight known front after (suc levels)
unfolding weight
deeper_falls known front after e levels falls =
    let b = base known in
    let some : 1 ≤ b = base_some known in
    let less = deeper_digits (entered known 0 front) b (length known) (room known (Some e)) (room known after) (base_is known) falls in
    let times = scaled _ _ (b ^ levels) (one-le-pow levels b some) less in
    rw (entered-append known 0 front e, room_none known, next_power b levels, ← mul_assoc (entered known 0 front * b + 2 * room known after) b (b ^ levels)) times

-- going a level back
pub back_falls : (known front : List Elem) (after : Option Elem) (a : Elem) (levels : ℕ) → weight known front (Some a) (suc levels) < weight known (front ++ a ∷ []) after levels
unfolding weight
back_falls known front after a levels =
    let b = base known in
    let some : 1 ≤ b = base_some known in
    let less = back_digits (entered known 0 front) b (room known (Some a)) (room known after) some in
    let times = scaled _ _ (b ^ levels) (one-le-pow levels b some) less in
    rw (entered-append known 0 front a, next_power b levels, ← mul_assoc (entered known 0 front * b + 2 * room known (Some a)) b (b ^ levels)) times
