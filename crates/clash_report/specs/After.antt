-- The first clash where something is held.
use Rattle.std.specs.Prelude.{◌≡◌, ◌≢◌, ◌⊎◌, ◌<◌, ℕ, All, length, Option, Some, None}
use Rattle.std.specs.declared.cmp.Ordering.TheVariants.{Less, Greater}
use Rattle.dl_base.specs.Ontology.{Terminology}
use Rattle.dl_base.specs.Paths.{ClashesAfter}
use Rattle.dl_base.specs.Sets.{role_place}
use Rattle.dl_base.specs.declared.concept.Basic.{Basic}
use Rattle.dl_base.specs.declared.concept.Basic.TheVariants as basic
use Rattle.dl_base.specs.declared.concept.Role.{Role}
use Rattle.role_graph.specs.FirstClashes.{IsClashFrom, clash_cmp}
use Rattle.role_graph.specs.declared.clash.RoleClash.{RoleClash}

-- a clash after what is held, such that none is before it, or none exactly where there is none
abbrev pub IsFirstAfter : Terminology → (Basic → Type 0) → Option RoleClash → Type 0
IsFirstAfter o held None = (c : RoleClash) → ClashesAfter o.inclusions held c.path c.inclusion → ⊥
IsFirstAfter o held (Some c) = ClashesAfter o.inclusions held c.path c.inclusion × ((d : RoleClash) → ClashesAfter o.inclusions held d.path d.inclusion → clash_cmp o c d ≢ Greater)

-- the roles of the clash are the ontology's
abbrev pub ArePlaced : Terminology → Option RoleClash → Type 0
ArePlaced o None = Unit {0}
ArePlaced o (Some c) = All (λ (r : Role). r.name < length o.roles) c.path

-- the clash is from one of the roles at the first places that are derived
pub record IsClashBehind (o : Terminology) (derived : Basic → Type 0) (place : ℕ) (c : RoleClash) : Type 0 where
  pub role : Role
  pub below : role_place role < place
  pub has : derived (basic.Exists role)
  pub from : IsClashFrom o role c

-- the first of these clashes, or none exactly where there is none
abbrev pub IsLeastBehind : Terminology → (Basic → Type 0) → ℕ → Option RoleClash → Type 0
IsLeastBehind o derived place None = (c : RoleClash) → IsClashBehind o derived place c → ⊥
IsLeastBehind o derived place (Some c) = IsClashBehind o derived place c × ((d : RoleClash) → IsClashBehind o derived place d → clash_cmp o c d ≢ Greater)

-- the one that comes first of the known clash and another, where there are any
abbrev pub IsLesserClash : Terminology → Option RoleClash → Option RoleClash → Option RoleClash → Type 0
IsLesserClash o None other result = result ≡ other
IsLesserClash o (Some c) None result = result ≡ Some c
IsLesserClash o (Some c) (Some d) result = ((result ≡ Some c) × (clash_cmp o c d ≢ Greater)) ⊎ ((result ≡ Some d) × (clash_cmp o d c ≡ Less))
