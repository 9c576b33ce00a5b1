use Rattle.std.proofs.Common.{ap, sym, subst, ◌∙◌, ℕ, All, length}
use Rattle.std.proofs.lemmas.Result.{IfOk-weaker}
use Rattle.tree_witness.specs.Trees.{IsEntryBelow}
use Rattle.join_ops.specs.Orders.{AreLevelsBy}
use Rattle.join_ops.proofs.PlannedLemmas.{leveled_count, leveled_order, leveled_terms, leveled_within, passing_by, twins_on}
use Rattle.join_ops.proofs.matches.Matches.with_trees.Goals as goal

pub add_twins-requires : goal.add_twins-requires
add_twins-requires c =
    let terms = leveled_terms c.args.s.now c.args.p.now c.in_ok-leveled.ensures.layout c.requires.plan c.args.fixed.now c.requires.fixed c.in_ok-leveled.leveled c.in_ok-leveled.ensures.by_level in
    subst (λ (n : ℕ). All (IsEntryBelow n) c.entries.result.now) (c.requires.trees ∙ sym terms ∙ sym (ap length c.items.ensures)) c.entries.ensures.below

pub by_level-requires-clause-on : goal.by_level-requires-clause-on
by_level-requires-clause-on c = twins_on c.args.s.now c.args.p.now c.in_ok-leveled.ensures.layout c.requires.plan c.args.fixed.now c.requires.fixed c.in_ok-leveled.leveled c.in_ok-leveled.ensures.by_level c.args.trees.now c.requires.trees (rw c.entries.ensures.entries at c.entries.ensures.below) c.add_twins.new.conditions.items (rw (c.items.ensures, c.entries.ensures.entries) at c.in_ok-add_twins.ensures)

pub by_level-requires-clause-count : goal.by_level-requires-clause-count
by_level-requires-clause-count c = leveled_count c.args.s.now c.args.p.now c.in_ok-leveled.ensures.layout c.requires.plan c.args.fixed.now c.requires.fixed c.in_ok-leveled.leveled c.in_ok-leveled.ensures.by_level

pub by_level-requires-clause-within : goal.by_level-requires-clause-within
by_level-requires-clause-within c = leveled_within c.args.s.now c.args.p.now c.in_ok-leveled.ensures.layout c.requires.plan c.args.fixed.now c.requires.fixed c.in_ok-leveled.leveled c.in_ok-leveled.ensures.by_level

pub returns-clause-left : goal.returns-clause-left
returns-clause-left c = IfOk-weaker c.by_level.result _ _ (λ m by table. passing_by c.args.s.now c.args.p.now c.in_ok-leveled.ensures.layout c.requires.plan c.args.fixed.now c.requires.fixed c.in_ok-leveled.leveled c.in_ok-leveled.ensures.by_level c.args.trees.now c.requires.trees (rw c.entries.ensures.entries at c.entries.ensures.below) c.add_twins.new.conditions.items (rw (c.items.ensures, c.entries.ensures.entries) at c.in_ok-add_twins.ensures) m by.levels_are by.fixed_are by.begins table) c.by_level.ensures

pub returns-clause-levels : goal.returns-clause-levels
returns-clause-levels c = IfOk-weaker c.by_level.result _ _ (λ m by. subst (AreLevelsBy c.args.p.now) (sym by.levels_are) (leveled_order c.args.s.now c.args.p.now c.in_ok-leveled.ensures.layout c.requires.plan c.args.fixed.now c.requires.fixed c.in_ok-leveled.leveled c.in_ok-leveled.ensures.by_level)) c.by_level.ensures

pub returns-clause-count : goal.returns-clause-count
returns-clause-count c = IfOk-weaker c.by_level.result _ _ (λ m by. ap length by.levels_are ∙ leveled_terms c.args.s.now c.args.p.now c.in_ok-leveled.ensures.layout c.requires.plan c.args.fixed.now c.requires.fixed c.in_ok-leveled.leveled c.in_ok-leveled.ensures.by_level) c.by_level.ensures
