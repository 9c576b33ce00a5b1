-- The first clashes among lists of roles that begin with a role.
use Rattle.std.specs.Prelude.{◌≡◌, ◌≢◌, ℕ, ◌*◌, List, ◌∷◌, length, slice_get, Option, Some, None}
use Rattle.std.specs.Cmp.Lexicographic.{slice_cmp}
use Rattle.std.specs.declared.cmp.Ordering.{Ordering}
use Rattle.std.specs.declared.cmp.Ordering.TheVariants.{Greater}
use Rattle.std.specs.Ordering.{nat_cmp, ordering_then}
use Rattle.dl_base.specs.Clashes.{role_cmp}
use Rattle.dl_base.specs.Derivation.{HeldBehind}
use Rattle.dl_base.specs.Ontology.{Terminology}
use Rattle.dl_base.specs.Paths.{ClashesAfter}
use Rattle.dl_base.specs.Sets.{role_place}
use Rattle.dl_base.specs.declared.concept.Role.{Role}
use Rattle.role_graph.specs.declared.clash.RoleClash.{RoleClash}

-- Its list of roles begins with the role. The others may follow behind that, and at their end the inclusion is violated.
pub record IsClashFrom (o : Terminology) (r : Role) (c : RoleClash) : Type 0 where
  pub rest : List Role
  pub begins : c.path ≡ r ∷ rest
  pub clashes : ClashesAfter o.inclusions (HeldBehind r) rest c.inclusion

-- the shorter list, then the lesser in role order, then the lesser inclusion
abbrev pub clash_cmp : Terminology → RoleClash → RoleClash → Ordering
clash_cmp o c d = ordering_then (nat_cmp (length c.path) (length d.path)) (ordering_then (slice_cmp (role_cmp o) c.path d.path) (nat_cmp c.inclusion d.inclusion))

-- a clash whose list begins with the role, such that none is before it, or none exactly where there is none
abbrev pub IsFirstFrom : Terminology → Role → Option RoleClash → Type 0
IsFirstFrom o r None = (c : RoleClash) → IsClashFrom o r c → ⊥
IsFirstFrom o r (Some c) = IsClashFrom o r c × ((d : RoleClash) → IsClashFrom o r d → clash_cmp o c d ≢ Greater)

-- for each role, by its place, the first clash among the lists that begin with it
pub record AreFirst (o : Terminology) (clashes : List (Option RoleClash)) : Type 0 where
  pub each : length clashes ≡ 2 * length o.roles
  pub first : (r : Role) (c : Option RoleClash) → slice_get clashes (role_place r) ≡ Some c → IsFirstFrom o r c
