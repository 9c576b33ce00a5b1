-- What a test of the items of a list parts.
use Rattle.std.specs.Prelude.{◌≡◌, ℕ, Bool, true, false, List, Option, slice_get}
use Rattle.std.specs.Fn.{FnReturnsAt, Shared}
use Rattle.std.specs.List.Sorted.{IsPartitionPoint}
use denote.Ref.{Bor}

-- each call of the test answers as passed
abbrev pub IsTestOf : {F X : Type 0} → Shared F (Bor X × Unit {0}) Bool → F → (X → Bool) → Type 0
IsTestOf {F} {X} test f passed = (x : X) (b : Bool) → FnReturnsAt test f x b → b ≡ passed x

-- the items in front of the place are passed, and no others
abbrev pub PartsAt : {X : Type 0} → (X → Bool) → List X → ℕ → Type 0
PartsAt passed xs at = IsPartitionPoint (λ x. passed x ≡ true) (λ x. passed x ≡ false) xs at

-- the item at the place where the list is parted, or none where all are passed
abbrev pub IsAtPoint : {X : Type 0} → (X → Bool) → List X → Option X → Type 0
IsAtPoint passed xs item = (at : ℕ) × PartsAt passed xs at × (item ≡ slice_get xs at)
