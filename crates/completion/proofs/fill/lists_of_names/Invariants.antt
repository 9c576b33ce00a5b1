use Rattle.std.proofs.Common.{◌*◌}
use Rattle.completion.specs.Gathered.{AreListsOfNames}
use Rattle.completion.specs.Numbers.{AreNumberLists}
use Rattle.completion.proofs.fill.lists_of_names.Given as goal

abbrev pub invariant-loop-name : goal.invariant-loop-name
invariant-loop-name l = AreListsOfNames l.rules l.individuals.entries l.book l.name l.lists.items × AreNumberLists l.individuals.entries l.properties.items (4 * l.name) l.numbers.items
