-- What holds while the first clashes are looked for, level by level.
use Rattle.std.specs.Prelude.{◌≡◌, ℕ, zero, suc, ◌+◌, ◌*◌, ◌<◌, ◌≤◌, ◌↔◌, List, [], ◌∷◌, length, slice_get, Contains, Option, Some, None}
use Rattle.dl_base.specs.Ontology.{Terminology}
use Rattle.dl_base.specs.Sets.{role_place}
use Rattle.dl_base.specs.declared.concept.Role.{Role}
use Rattle.role_graph.specs.FirstClashes.{IsClashFrom, IsFirstFrom}
use Rattle.role_graph.specs.declared.clash.RoleClash.{RoleClash}

-- the first clash from the role, where it has no more roles than the depth, or none where there is no such clash
abbrev pub IsFirstWithin : Terminology → ℕ → Role → Option RoleClash → Type 0
IsFirstWithin o depth r None = (c : RoleClash) → IsClashFrom o r c → depth < length c.path
IsFirstWithin o depth r (Some c) = IsFirstFrom o r (Some c) × (length c.path ≤ depth)

-- the role's first clash is known, and has so many roles
abbrev pub IsFoundAt : List (Option RoleClash) → ℕ → Role → Type 0
IsFoundAt clashes depth r = (c : RoleClash) × (slice_get clashes (role_place r) ≡ Some (Some c)) × (length c.path ≡ depth)

-- The first clashes with no more roles than the depth, by the places of the roles that they begin with, and those of
-- these roles from which the first clash has just so many.
pub record IsLevel (o : Terminology) (clashes : List (Option RoleClash)) (roles : List Role) : Type 0 where
  pub depth : ℕ
  pub some : 1 ≤ depth
  pub each : length clashes ≡ 2 * length o.roles
  pub first : (r : Role) (c : Option RoleClash) → slice_get clashes (role_place r) ≡ Some c → IsFirstWithin o depth r c
  pub level : (r : Role) → Contains roles r ↔ IsFoundAt clashes depth r

-- of how many roles no clash is known
abbrev pub unknown : List (Option RoleClash) → ℕ
unknown [] = 0
unknown (None ∷ cs) = suc (unknown cs)
unknown (Some c ∷ cs) = unknown cs
