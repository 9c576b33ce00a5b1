-- Chains of points.
use Rattle.std.specs.Prelude.{◌↔◌, ℕ, List}
use Rattle.dl_base.specs.Completion.{IndividualPoints, RolePoints}
use Rattle.dl_base.specs.Ontology.{Terminology}
use Rattle.dl_base.specs.declared.concept.Role.{Role}
use Rattle.dl_base.specs.declared.row.NamedRow.{NamedRow}

-- a finite chain of points leads to the role from one of these
pub data IsReached (o : Terminology) (from : Role → Type 0) : Role → Type 0 where
  first : {r : Role} → from r → IsReached o from r
  next : {s r : Role} → IsReached o from s → RolePoints o s r → IsReached o from r

-- these are the roles to which individuals point
abbrev pub ArePointedTo : Terminology → List NamedRow → (Role → Type 0) → Type 0
ArePointedTo o rows from = (r : Role) → from r ↔ ((a : List ℕ) × IndividualPoints o rows a r)
