-- The first clash of a base, by names.
use Rattle.std.specs.Prelude.{◌≡◌, ◌≢◌, ◌<◌, ◌⊎◌, ℕ, List, length, slice_get, Option, Some, None}
use Rattle.std.specs.List.{AllZip}
use Rattle.std.specs.declared.cmp.Ordering.TheVariants.{Less, Greater}
use Rattle.dl_base.specs.Clashes.{Place, IsFirstClash, individual_of, path_of}
use Rattle.dl_base.specs.Ontology.{Terminology}
use Rattle.dl_base.specs.Rows.{Held, IsIndividual, name_cmp}
use Rattle.dl_base.specs.declared.axiom.NamedRole.{NamedRole}
use Rattle.dl_base.specs.declared.clash.Clash.{Clash}
use Rattle.dl_base.specs.declared.concept.Role.{Role}
use Rattle.dl_base.specs.declared.row.NamedRow.{NamedRow}
use Rattle.completion.specs.Completed.{Completion}
use Rattle.completion.specs.Individuals.{IsKept}
use Rattle.clash_report.specs.After.{ArePlaced, IsFirstAfter}
use Rattle.clash_report.specs.declared.found.Found.{Found}

-- each individual of which something is kept has its number within a list of names
abbrev pub AreWithinNames : Completion → List (List ℕ) → Type 0
AreWithinNames c names = (n : ℕ) → IsKept c.individuals n → n < length names

-- the role by its name
pub record IsNamedRole (o : Terminology) (r : Role) (named : NamedRole) : Type 0 where
  pub name : slice_get o.roles r.name ≡ Some named.name
  pub inverse : named.inverse ≡ r.inverse

abbrev pub AreNamedRoles : Terminology → List Role → List NamedRole → Type 0
AreNamedRoles o path named = AllZip (IsNamedRole o) path named

-- the place by names
pub record IsNamedClash (o : Terminology) (p : Place) (c : Clash) : Type 0 where
  pub name : c.name ≡ individual_of p.element
  pub path : AreNamedRoles o (path_of p.element) c.path
  pub inclusion : c.inclusion ≡ p.inclusion

-- the first clash by names, or none exactly where there is none
abbrev pub IsReported : Terminology → List NamedRow → Option Clash → Type 0
IsReported o rows None = IsFirstClash o rows None
IsReported o rows (Some c) = (p : Place) × IsFirstClash o rows (Some p) × IsNamedClash o p c

-- nothing was found, or the individual of this number comes before that of what was found
abbrev pub ComesFirst : List (List ℕ) → ℕ → Option Found → Type 0
ComesFirst names n None = Unit {0}
ComesFirst names n (Some f) = (a : List ℕ) × (b : List ℕ) × (slice_get names n ≡ Some a) × (slice_get names f.individual ≡ Some b) × (name_cmp a b ≡ Less)

-- what was found is of one of the individuals, and its roles are the ontology's
abbrev pub IsInside : Terminology → List (List ℕ) → Option Found → Type 0
IsInside o names None = Unit {0}
IsInside o names (Some f) = (f.individual < length names) × ArePlaced o (Some f.clash)

-- there is no clash at the individual, or it doesn't come before b
abbrev pub IsLater : Terminology → List NamedRow → List ℕ → List ℕ → Type 0
IsLater o rows b a = IsFirstAfter o (Held o rows a) None ⊎ (name_cmp b a ≢ Greater)

-- the first clash at the first of the individuals with numbers below that one that has a clash
pub record IsLeastAt (o : Terminology) (rows : List NamedRow) (names : List (List ℕ)) (count : ℕ) (f : Found) : Type 0 where
  pub name : List ℕ
  pub at : slice_get names f.individual ≡ Some name
  pub individual : IsIndividual rows name
  pub first : IsFirstAfter o (Held o rows name) (Some f.clash)
  pub least : (n : ℕ) (a : List ℕ) → n < count → slice_get names n ≡ Some a → IsIndividual rows a → IsLater o rows name a

abbrev pub IsLeastFound : Terminology → List NamedRow → List (List ℕ) → ℕ → Option Found → Type 0
IsLeastFound o rows names count None = (n : ℕ) (a : List ℕ) → n < count → slice_get names n ≡ Some a → IsIndividual rows a → IsFirstAfter o (Held o rows a) None
IsLeastFound o rows names count (Some f) = IsLeastAt o rows names count f
