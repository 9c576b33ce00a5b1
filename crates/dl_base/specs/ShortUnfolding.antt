-- The short unfolding: individuals, and behind each whatever roles the completed tables point to, without a bound.
use Rattle.std.specs.Prelude.{List}
use Rattle.dl_base.specs.Ontology.{Terminology}
use Rattle.dl_base.specs.Rows.{IsIndividual}
use Rattle.dl_base.specs.Unfolding.{Element, Named, Next}
use Rattle.dl_base.specs.Completion.{IndividualPoints, RolePoints, Node, Individual, WitnessOf}
use Rattle.dl_base.specs.declared.concept.Role.{Role}
use Rattle.dl_base.specs.declared.row.NamedRow.{NamedRow}

-- what the element ends in points to the role
abbrev pub EndPoints : Terminology → List NamedRow → Element → Role → Type 0
EndPoints o rows (Named a) r = IndividualPoints o rows a r
EndPoints o rows (Next e s) r = RolePoints o s r

-- an individual, or a short element that is extended by a role to which its end points
abbrev pub IsShort : Terminology → List NamedRow → Element → Type 0
IsShort o rows (Named a) = IsIndividual rows a
IsShort o rows (Next e r) = IsShort o rows e × EndPoints o rows e r

-- the node that a short element folds to: the individual itself, or the one witness of its last role
abbrev pub node_of : Element → Node
node_of (Named a) = Individual a
node_of (Next e r) = WitnessOf r
