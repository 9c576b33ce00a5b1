-- Numbers of the individuals that have properties, a list for each property.
use Rattle.std.specs.Prelude.{◌≡◌, ◌≢◌, ◌↔◌, ◌≤◌, ◌<◌, ◌+◌, ◌*◌, ◌⊎◌, ℕ, false, true, List, [], ◌∷◌, ◌++◌, length, Contains, Some, slice_get, slice_index_or}
use Rattle.completion.specs.Gathered.{IsFoundWith, IsHad}
use Rattle.dl_base.specs.declared.concept.Basic.TheVariants as basic
use Rattle.dl_base.specs.declared.concept.Role.{Role}
use Rattle.completion.specs.declared.gather.Property.{Property}
use Rattle.completion.specs.declared.gather.Property.TheVariants.{Derived, Pointing}
use Rattle.completion.specs.declared.individuals.AtIndividual.{AtIndividual}

-- these are the numbers of the individuals that have the property
abbrev pub AreNumbersWith : List (ℕ × AtIndividual) → Property → List ℕ → Type 0
AreNumbersWith list p numbers = (n : ℕ) → Contains numbers n ↔ IsFoundWith list p n

-- from this place on each list has the numbers of the individuals with the property at its place
pub record AreNumberLists (list : List (ℕ × AtIndividual)) (properties : List Property) (from : ℕ) (lists : List (List ℕ)) : Type 0 where
  pub all : length lists ≡ length properties
  pub each : (i : ℕ) (p : Property) → from ≤ i → slice_get properties i ≡ Some p → AreNumbersWith list p (slice_index_or lists i [])

-- the number stands behind the others exactly where the individual has the property
abbrev pub IsAddedTo : ℕ → AtIndividual → Property → List ℕ → List ℕ → Type 0
IsAddedTo n x p old new = (IsHad p x × (new ≡ old ++ n ∷ [])) ⊎ ((IsHad p x → ⊥) × (new ≡ old))

-- so it is for each property and the list at its place
pub record AreAddedToEach (n : ℕ) (x : AtIndividual) (properties : List Property) (old new : List (List ℕ)) : Type 0 where
  pub all : length new ≡ length old
  pub each : (i : ℕ) (p : Property) → slice_get properties i ≡ Some p → IsAddedTo n x p (slice_index_or old i []) (slice_index_or new i [])

-- the list was at the place, and all others stay
pub record IsTakenFrom (place : ℕ) (old : List (List ℕ)) (list : List ℕ) (new : List (List ℕ)) : Type 0 where
  pub all : length new ≡ length old
  pub taken : list ≡ slice_index_or old place []
  pub others : (i : ℕ) → i ≢ place → slice_index_or new i [] ≡ slice_index_or old i []

-- for each of so many concepts, at its place, that it is derived
pub record AreConceptProperties (concepts : ℕ) (properties : List Property) : Type 0 where
  pub all : length properties ≡ concepts
  pub each : (c : ℕ) → c < concepts → slice_get properties c ≡ Some (Derived (basic.Concept c))

-- at this place stands that the role leads from there, and behind it that its witness is pointed to
pub record AreOfRole (properties : List Property) (place : ℕ) (r : Role) : Type 0 where
  pub leads : slice_get properties place ≡ Some (Derived (basic.Exists r))
  pub points : slice_get properties (place + 1) ≡ Some (Pointing r)

-- for each of so many role names those of the role and of its inverse, four in a row
pub record AreRoleProperties (names : ℕ) (properties : List Property) : Type 0 where
  pub all : length properties ≡ 4 * names
  pub direct : (p : ℕ) → p < names → AreOfRole properties (4 * p) (record { name = p; inverse = false })
  pub inverse : (p : ℕ) → p < names → AreOfRole properties (4 * p + 2) (record { name = p; inverse = true })
