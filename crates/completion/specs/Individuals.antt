-- What is derived at individuals, each found by its number.
use Rattle.std.specs.Prelude.{◌≡◌, ◌↔◌, ◌≤◌, ℕ, List, Option, Some, None}
use Rattle.std.specs.BTreeMap.{is_at}
use Rattle.std.specs.Map.{lookup}
use Rattle.std.specs.Ordering.{nat_cmp}
use Rattle.assert_tables.specs.Rows.{IsNumberAbove}
use Rattle.dl_base.specs.Ontology.{Terminology}
use Rattle.dl_base.specs.Sets.{HasRole}
use Rattle.dl_base.specs.declared.concept.Role.{Role}
use Rattle.dl_base.specs.declared.row.Row.{Row}
use Rattle.horn_closure.specs.Closure.{IsClosure}
use Rattle.completion.specs.Numbered.{HoldsBy, IsRowNamed, PointsTo}
use Rattle.completion.specs.declared.individuals.AtIndividual.{AtIndividual}

-- what the list has for a number
abbrev pub found_at : List (ℕ × AtIndividual) → ℕ → Option AtIndividual
found_at list n = lookup (is_at (nat_cmp n)) list

-- the list has something for the number
abbrev pub IsKept : List (ℕ × AtIndividual) → ℕ → Type 0
IsKept list n = (x : AtIndividual) × (found_at list n ≡ Some x)

-- it is the closure of what the individual holds, and the set of the roles to whose witnesses the individual points
pub record IsAt (o : Terminology) (rows : List Row) (n : ℕ) (x : AtIndividual) : Type 0 where
  pub closure : IsClosure o.inclusions (HoldsBy rows n) x.closed
  pub points : (r : Role) → HasRole x.points r ↔ PointsTo o rows n r

-- the list has something for each individual of the rows and for no other number, and it is what is derived there
pub record AreAtIndividuals (o : Terminology) (rows : List Row) (list : List (ℕ × AtIndividual)) : Type 0 where
  pub each : (n : ℕ) → IsKept list n ↔ IsRowNamed rows n
  pub derived : (n : ℕ) (x : AtIndividual) → found_at list n ≡ Some x → IsAt o rows n x

-- the least of these numbers above that one, or of all, and none exactly where there is none
abbrev pub IsLeastNumber : (ℕ → Type 0) → Option ℕ → Option ℕ → Type 0
IsLeastNumber has after None = (n : ℕ) → has n → IsNumberAbove after n → ⊥
IsLeastNumber has after (Some b) = has b × IsNumberAbove after b × ((n : ℕ) → has n → IsNumberAbove after n → b ≤ n)
