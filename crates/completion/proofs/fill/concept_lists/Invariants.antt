use Rattle.completion.specs.Gathered.{AreConceptLists}
use Rattle.completion.specs.Numbers.{AreNumberLists}
use Rattle.completion.proofs.fill.concept_lists.Given as goal

abbrev pub invariant-loop-concept : goal.invariant-loop-concept
invariant-loop-concept l = AreConceptLists l.rules l.individuals.entries l.book l.concept l.lists.items × AreNumberLists l.individuals.entries l.properties.items l.concept l.numbers.items
