-- Individuals by the order of their names, and keys by the ranks that these have in it.
use Rattle.std.specs.Prelude.{◌≡◌, ◌<◌, ℕ, Vec, List, All, Contains, Some, slice_get, slice_index, map}
use Rattle.std.specs.declared.cmp.Ordering.TheVariants.{Less}
use Rattle.std.specs.declared.alloc.Global.{Global}
use Rattle.dl_base.specs.Rows.{name_cmp}
use Rattle.answer_core.specs.declared.ranks.Ranked.{Ranked}

-- one of the rows has the number
abbrev pub IsInRow : List (List ℕ) → ℕ → Type 0
IsInRow rows n = (row : List ℕ) × Contains rows row × Contains row n

-- the individual has the name that the list has at its number
abbrev pub HasItsName : List (List ℕ) → Ranked → Type 0
HasItsName names e = slice_get names e.number ≡ Some e.name.now

-- one of these individuals has the number
abbrev pub HasNumber : List Ranked → ℕ → Type 0
HasNumber order n = (e : Ranked) × Contains order e × (e.number ≡ n)

-- the names of these individuals
abbrev pub names_by_rank : List Ranked → List (List ℕ)
names_by_rank order = map (λ e. e.name.now) order

-- individuals of these names in the order of their names: none behind another has a name below that one's
pub record AreInOrder (names : List (List ℕ)) (order : List Ranked) : Type 0 where
  pub named : All (HasItsName names) order
  pub in_order : (i j : ℕ) (x y : Ranked) → i < j → slice_get order i ≡ Some x → slice_get order j ≡ Some y → name_cmp y.name.now x.name.now ≡ Less → ⊥

-- the rank of the number is the place of an individual that has it
abbrev pub HasRank : List Ranked → List ℕ → ℕ → Type 0
HasRank order ranks n = (e : Ranked) × (slice_get order (slice_index ranks n) ≡ Some e) × (e.number ≡ n)

-- the ranks of these numbers
abbrev pub ranks_of : List ℕ → List ℕ → List ℕ
ranks_of ranks numbers = map (λ n. slice_index ranks n) numbers

-- the lists in these vectors
abbrev pub items_of : List (Vec ℕ Global) → List (List ℕ)
items_of rows = map (λ row. row.items) rows
