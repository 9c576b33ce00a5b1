use Rattle.std.proofs.Common.{List, subst}
use Rattle.dl_base.specs.declared.row.Row.{Row}
use Rattle.row_changes.specs.Difference.{AddsEach, RemovesEach}
use Rattle.row_changes.proofs.DifferenceLemmas.{put_back}
use Rattle.row_changes.proofs.difference.Difference.undo.Goals as goal

pub returns : goal.returns
returns c = λ first rises is.
    put_back first c.args.rows.now c.remove_each.new.rows c.add_each.new.rows c.in_ok-come.come c.in_ok-gone.gone c.args.self.now rises c.rows.ensures.rising is c.in_ok-come.ensures c.in_ok-gone.ensures
    (subst (λ (xs : List Row). RemovesEach xs c.args.rows.now c.remove_each.new.rows) c.items.ensures c.remove_each.ensures)
    (subst (λ (xs : List Row). AddsEach xs c.remove_each.new.rows c.add_each.new.rows) c.items-2.ensures c.in_ok-add_each.ensures)
