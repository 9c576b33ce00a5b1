-- What a graph of the roles of an ontology is.
use Rattle.std.specs.Prelude.{◌≡◌, ◌*◌, ◌<◌, ◌≤◌, List, length, Option}
use Rattle.dl_base.specs.Ontology.{Terminology, IsTerminology}
use Rattle.dl_base.specs.declared.concept.Role.{Role}
use Rattle.role_graph.specs.Behind.{AreClosures}
use Rattle.role_graph.specs.FirstClashes.{AreFirst}
use Rattle.role_graph.specs.declared.clash.RoleClash.{RoleClash}
use Rattle.role_graph.specs.declared.closures.BothWays.{BothWays}

-- for each role name, by its place, what is derived behind it and behind its inverse, and for each role, by its place, the
-- first clash from it
pub record Graph : Type 0 where
  pub closed : List BothWays
  pub clashes : List (Option RoleClash)

-- it is the graph of the ontology
pub record IsGraphOf (o : Terminology) (g : Graph) : Type 0 where
  pub within : IsTerminology o
  pub closures : AreClosures o.inclusions (length o.roles) g.closed
  pub first : AreFirst o g.clashes

-- the graph has the role
abbrev pub HasNode : Graph → Role → Type 0
HasNode g r = r.name < length g.closed

-- both are of the same roles
pub record IsPaired (closed : List BothWays) (clashes : List (Option RoleClash)) : Type 0 where
  pub few : length closed ≤ 256
  pub same : length clashes ≡ 2 * length closed
