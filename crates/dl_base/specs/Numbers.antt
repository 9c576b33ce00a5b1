-- Rows by numbers and the rows by names that they stand for.
use Rattle.std.specs.Prelude.{◌≡◌, ◌≢◌, ℕ, List, [], ◌∷◌, AllPairs, Contains, Some, slice_get}
use Rattle.dl_base.specs.Ontology.{Terminology}
use Rattle.dl_base.specs.declared.row.NamedRow.{NamedRow}
use Rattle.dl_base.specs.declared.row.NamedRow.TheVariants as named
use Rattle.dl_base.specs.declared.row.Row.{Row}
use Rattle.dl_base.specs.declared.row.Row.TheVariants as row

-- the place of the concept or the role that the row is of
abbrev pub IsPlaceOf : Terminology → NamedRow → ℕ → Type 0
IsPlaceOf o (named.Concept c a) place = slice_get o.concepts place ≡ Some c
IsPlaceOf o (named.Role p a b) place = slice_get o.roles place ≡ Some p

-- the ontology has the row's concept, or its role
abbrev pub IsNamedBy : Terminology → NamedRow → Type 0
IsNamedBy o (named.Concept c a) = Contains o.concepts c
IsNamedBy o (named.Role p a b) = Contains o.roles p

-- the individuals of the row, from left to right
abbrev pub names_in : NamedRow → List (List ℕ)
names_in (named.Concept c a) = a ∷ []
names_in (named.Role p a b) = a ∷ b ∷ []

-- the row by the numbers of its names: those of concepts and roles in the ontology, and of individuals in a list of names
abbrev pub NumbersRow : Terminology → List (List ℕ) → NamedRow → Row → Type 0
NumbersRow o names (named.Concept c a) (row.Concept d n) = (slice_get o.concepts d ≡ Some c) × (slice_get names n ≡ Some a)
NumbersRow o names (named.Role p a b) (row.Role q n m) = (slice_get o.roles q ≡ Some p) × (slice_get names n ≡ Some a) × (slice_get names m ≡ Some b)
NumbersRow o names (named.Concept c a) (row.Role q n m) = ⊥
NumbersRow o names (named.Role p a b) (row.Concept d n) = ⊥

-- under a list of distinct names the rows by numbers stand for those by names
pub record StandFor (o : Terminology) (names : List (List ℕ)) (rows : List Row) (these : List NamedRow) : Type 0 where
  pub distinct : AllPairs (λ x y. x ≢ y) names
  pub each : (r : NamedRow) → Contains these r → (n : Row) × Contains rows n × NumbersRow o names r n
  pub only : (n : Row) → Contains rows n → (r : NamedRow) × Contains these r × NumbersRow o names r n
