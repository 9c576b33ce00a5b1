-- Rows as a list.
use Rattle.std.specs.Prelude.{◌≡◌, ◌≢◌, ◌↔◌, ◌⊎◌, ℕ, List, [], ◌∷◌, ◌++◌, AllPairs, Contains}
use Rattle.dl_base.specs.declared.row.Row.{Row}
use Rattle.assert_tables.specs.Rows.{first_of}

-- the rows, each once, in some order
pub record IsListOf (rows list : List Row) : Type 0 where
  pub once : AllPairs (λ x y. x ≢ y) list
  pub each : (r : Row) → Contains list r ↔ Contains rows r

-- the row goes last where its first individual is this one, and else the list stays
abbrev pub ListsRow : ℕ → Row → List Row → List Row → Type 0
ListsRow n r old new = ((first_of r ≡ n) × (new ≡ old ++ r ∷ [])) ⊎ ((first_of r ≢ n) × (new ≡ old))

-- the rows whose first individual this is come to the list, each once where none was there
pub record ListsFrom (n : ℕ) (rows old new : List Row) : Type 0 where
  pub each : (r : Row) → Contains new r ↔ (((first_of r ≡ n) × Contains rows r) ⊎ Contains old r)
  pub once : AllPairs (λ x y. x ≢ y) old → ((r : Row) → Contains old r → first_of r ≢ n) → AllPairs (λ x y. x ≢ y) new
