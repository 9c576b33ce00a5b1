use Rattle.std.proofs.Common.{Contains, arith}
use Rattle.query_shape.specs.Shape.{known_item, new_item}
use Rattle.join_ops.proofs.order.add.Goals as goal

there : (c : goal.Then-contains) → Contains c.args.order.now.items c.args.term
there c = grind (arith, c.contains.ensures.cases, c.if-contains.true, c.deref.ensures.value)

absent : (c : goal.In_ok-push) → Contains c.args.order.now.items c.args.term → ⊥
absent c = grind (arith, c.contains.ensures.cases, c.if-contains.false, c.deref.ensures.value)

pub returns-then-contains : goal.returns-then-contains
returns-then-contains c = λ all are. known_item c.args.term are (there c)

pub returns : goal.returns
returns c = λ all are. rw c.in_ok-push.ensures.items (new_item c.args.term are (absent c))
