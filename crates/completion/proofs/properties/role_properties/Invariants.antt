use Rattle.completion.specs.Numbers.{AreRoleProperties}
use Rattle.completion.proofs.properties.role_properties.Given as goal

abbrev pub invariant-loop-name : goal.invariant-loop-name
invariant-loop-name l = AreRoleProperties l.name l.properties.items
