use Rattle.completion.specs.Numbers.{AreConceptProperties}
use Rattle.completion.proofs.properties.concept_properties.Given as goal

abbrev pub invariant-loop-concept : goal.invariant-loop-concept
invariant-loop-concept l = AreConceptProperties l.concept l.properties.items
