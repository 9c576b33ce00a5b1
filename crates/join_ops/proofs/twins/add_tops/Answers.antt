use Rattle.std.proofs.Common.{sym, refl}
use Rattle.join_ops.specs.Planned.{IsTopBy}
use Rattle.join_ops.proofs.TwinLemmas.{adds_one, no_roles}
use Rattle.join_ops.proofs.twins.add_tops.Goals as goal
use Rattle.join_ops.proofs.twins.add_tops.Goals.{then-is_empty+then-reached-atom+in_ok-push, else-is_empty}

pub loop-reached-preserved : goal.loop-reached-preserved
loop-reached-preserved c = elim c.if-is_empty.branch [
  | then-is_empty+then-reached-atom+in_ok-push w ↦
      let reached = c.reached-item.result in
      rw (w.conditions-is, w.in_ok-push.ensures.items)
      (adds_one (IsTopBy c.args.levels.now c.args.atom c.args.tree.now) c.args.conditions.now.items c.loop-reached.conditions.items _ c.loop-reached.invariant
      (reached, (c.loop-reached.reached-index, c.loop-reached-test.true, sym c.reached-item.is), no_roles c.items.result.now reached.roles c.is_empty.result w.if-is_empty.true c.is_empty.ensures c.items.ensures, refl))
  | else-is_empty w ↦ rw w.conditions-is c.loop-reached.invariant
]
