-- What rows by numbers say of individuals, and the witnesses that are needed.
use Rattle.std.specs.Prelude.{◌≡◌, ℕ, ◌<◌, ◌⊎◌, false, true, List, length, Contains}
use Rattle.assert_tables.specs.Rows.{IsNamedIn}
use Rattle.dl_base.specs.Derivation.{Derives}
use Rattle.dl_base.specs.Ontology.{Terminology}
use Rattle.dl_base.specs.declared.concept.Basic.{Basic}
use Rattle.dl_base.specs.declared.concept.Basic.TheVariants as basic
use Rattle.dl_base.specs.declared.concept.Role.{Role}
use Rattle.dl_base.specs.declared.row.Row.{Row}
use Rattle.dl_base.specs.declared.row.Row.TheVariants as row
use Rattle.role_graph.specs.Reached.{IsReached}

-- the row's concept or role has a number below those of so many concepts or roles
abbrev pub IsRowWithin : ℕ → ℕ → Row → Type 0
IsRowWithin concepts roles (row.Concept c n) = c < concepts
IsRowWithin concepts roles (row.Role p n m) = p < roles

-- the row is of a concept or a role of the ontology
abbrev pub IsRowOf : Terminology → Row → Type 0
IsRowOf o = IsRowWithin (length o.concepts) (length o.roles)

-- by the row the individual of this number is in the basic concept: a role has a successor where it begins, and its inverse
-- where it ends
abbrev pub GivesBasic : Row → ℕ → Basic → Type 0
GivesBasic (row.Concept c a) n b = (a ≡ n) × (b ≡ basic.Concept c)
GivesBasic (row.Role p a d) n b = ((a ≡ n) × (b ≡ basic.Exists (record { name = p; inverse = false }))) ⊎ ((d ≡ n) × (b ≡ basic.Exists (record { name = p; inverse = true })))

-- what the individual of this number holds by the rows
abbrev pub HoldsBy : List Row → ℕ → Basic → Type 0
HoldsBy rows n b = (r : Row) × Contains rows r × GivesBasic r n b

-- some row names the individual of this number
abbrev pub IsRowNamed : List Row → ℕ → Type 0
IsRowNamed rows n = (r : Row) × Contains rows r × IsNamedIn n r

-- what is derived at the individual of this number
abbrev pub IsDerivedAt : Terminology → List Row → ℕ → Basic → Type 0
IsDerivedAt o rows n = Derives o.inclusions (HoldsBy rows n)

-- An individual points to the witness of a role where a successor is derived and no row gives one.
pub record PointsTo (o : Terminology) (rows : List Row) (n : ℕ) (r : Role) : Type 0 where
  pub derived : IsDerivedAt o rows n (basic.Exists r)
  pub no_row : HoldsBy rows n (basic.Exists r) → ⊥

-- an individual points to the witness of the role
abbrev pub IsPointedTo : Terminology → List Row → Role → Type 0
IsPointedTo o rows r = (n : ℕ) × IsRowNamed rows n × PointsTo o rows n r

-- a role is live where a finite chain of points leads to it from an individual
abbrev pub IsLiveRole : Terminology → List Row → Role → Type 0
IsLiveRole o rows = IsReached o (IsPointedTo o rows)
