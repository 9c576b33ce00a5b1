use Rattle.std.proofs.Common.{◌∙◌, sym}
use Rattle.query_shape.proofs.NumberingLemmas.{firsts_distinct}
use Rattle.join_ops.specs.Orders.{AreLevelsIn}
use Rattle.join_ops.proofs.ImageLemmas.{levels_count}
use Rattle.join_ops.proofs.OrderLemmas.{all_below, order_all, order_count, order_each, order_few}
use Rattle.join_ops.proofs.order.leveled_by.Goals as goal

pub levels_in-requires-clause-each : goal.levels_in-requires-clause-each
levels_in-requires-clause-each c = rw c.as_slice.ensures.value (order_each c.args.s.now c.args.p.now c.terms.ensures.layout c.requires.plan c.in_ok-order.order.items (rw c.steps.ensures at c.in_ok-order.ensures))

pub levels_in-requires-clause-within : goal.levels_in-requires-clause-within
levels_in-requires-clause-within c = rw c.as_slice.ensures.value (order_all c.args.s.now c.args.p.now c.terms.ensures.layout c.requires.plan c.in_ok-order.order.items (rw c.steps.ensures at c.in_ok-order.ensures))

pub levels_in-requires-clause-distinct : goal.levels_in-requires-clause-distinct
levels_in-requires-clause-distinct c = rw c.as_slice.ensures.value (firsts_distinct c.in_ok-order.ensures)

pub levels_in-requires-clause-few : goal.levels_in-requires-clause-few
levels_in-requires-clause-few c = rw c.as_slice.ensures.value (order_few c.args.s.now c.args.p.now c.terms.ensures.layout c.requires.plan c.in_ok-order.order.items (rw c.steps.ensures at c.in_ok-order.ensures))

pub atoms_by_level-requires : goal.atoms_by_level-requires
atoms_by_level-requires c =
    let are : AreLevelsIn c.in_ok-order.order.items c.in_ok-levels.levels = rw c.as_slice.ensures.value at c.in_ok-levels.ensures in
    rw (c.steps-2.ensures, c.items.ensures, levels_count c.args.s.now c.args.p.now c.terms.ensures.layout c.requires.plan c.in_ok-order.order.items c.in_ok-levels.levels (rw c.steps.ensures at c.in_ok-order.ensures) are)
    (all_below c.args.s.now c.args.p.now c.terms.ensures.layout c.requires.plan)

pub fixed_by_level-requires : goal.fixed_by_level-requires
fixed_by_level-requires c =
    let count = order_count c.args.s.now c.args.p.now c.terms.ensures.layout c.requires.plan c.in_ok-order.order.items (rw c.steps.ensures at c.in_ok-order.ensures) in
    rw (c.as_slice-2.ensures.value, c.requires.fixed ∙ sym count) (order_all c.args.s.now c.args.p.now c.terms.ensures.layout c.requires.plan c.in_ok-order.order.items (rw c.steps.ensures at c.in_ok-order.ensures))

pub returns-clause-by_level : goal.returns-clause-by_level
returns-clause-by_level c = record {
  order = c.in_ok-order.order.items;
  firsts = rw c.steps.ensures at c.in_ok-order.ensures;
  levels_are = rw c.as_slice.ensures.value at c.in_ok-levels.ensures;
  atoms_are = rw (c.steps-2.ensures, c.items.ensures) at c.in_ok-conditions.ensures;
  fixed_are = rw c.as_slice-2.ensures.value at c.in_ok-fixed.ensures;
}
