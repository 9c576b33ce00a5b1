use Rattle.std.proofs.Common.{List, subst, sym, ap, ◌∙◌, Some}
use Rattle.tree_witness.specs.declared.trees.TreeEntry.{TreeEntry}
use Rattle.join_ops.specs.Planned.{AddsTwins, AreTwinsBy}
use Rattle.join_ops.proofs.SearchSteps.{take_all}
use Rattle.join_ops.proofs.TwinLemmas.{entry_with, entry_without}
use Rattle.join_ops.proofs.twins.add_twins.Goals as goal
use Rattle.join_ops.proofs.twins.add_twins.Goals.{in-Some+in_ok-add_tops, in_default}

pub loop-entry-preserved : goal.loop-entry-preserved
loop-entry-preserved c = elim c.match-entry.branch [
  | in-Some+in_ok-add_tops w ↦
      rw w.conditions-is
      (entry_with c.args.levels.now c.args.entries.now c.loop-entry.entry-index c.entry-item.result c.loop-entry-test.true c.entry-item.is w.items.result.now c.args.conditions.now.items c.loop-entry.conditions.items w.add_tops.new.conditions.items
      (w.in-Some.is ∙ ap Some (sym w.items.ensures)) c.loop-entry.invariant w.in_ok-add_tops.ensures)
  | in_default w ↦ rw w.conditions-is (entry_without c.args.levels.now c.args.entries.now c.loop-entry.entry-index c.entry-item.result c.loop-entry-test.true c.entry-item.is c.args.conditions.now.items c.loop-entry.conditions.items c.loop-entry.invariant)
]

pub returns : goal.returns
returns c = subst (λ (l : List TreeEntry). AddsTwins (AreTwinsBy c.args.levels.now l) c.args.conditions.now.items c.loop-entry.conditions.items) (take_all c.loop-entry.entry-index c.args.entries.now c.loop-entry-test.false) c.loop-entry.invariant
