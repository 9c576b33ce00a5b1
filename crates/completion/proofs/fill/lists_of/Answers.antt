use Rattle.std.proofs.Common.{◌+◌}
use Rattle.dl_base.specs.declared.concept.Basic.TheVariants as basic
use Rattle.completion.specs.declared.gather.Property.TheVariants.{Derived, Pointing}
use Rattle.completion.proofs.NumberListLemmas.{list_taken, lists_left, two_left}
use Rattle.completion.proofs.fill.lists_of.Goals as goal

pub returns-clause-lists : goal.returns-clause-lists
returns-clause-lists c = λ list properties are of_role.
    let old = c.args.numbers.now.items in
    let mid = c.take_list-with_edge.new.lists.items in
    let new = c.take_list-pointing.new.lists.items in
    let place = c.args.place in
    record {
      sources = c.in_ok-elements_with.ensures list (list_taken list properties place (Derived (basic.Exists c.args.role)) old mid c.take_list-with_edge.result c.take_list-with_edge.ensures are of_role.leads);
      pointing = c.in_ok-elements_with-2.ensures list (list_taken list properties (place + 1) (Pointing c.args.role) mid new c.take_list-pointing.result c.take_list-pointing.ensures
          (lists_left list properties place old mid c.take_list-with_edge.result c.take_list-with_edge.ensures are) of_role.points);
      generation = c.generation.ensures;
    }

pub returns-clause-left : goal.returns-clause-left
returns-clause-left c = λ list properties are.
    two_left list properties c.args.place c.args.numbers.now.items c.take_list-with_edge.new.lists.items c.take_list-pointing.new.lists.items c.take_list-with_edge.result c.take_list-pointing.result
    c.take_list-with_edge.ensures c.take_list-pointing.ensures are
