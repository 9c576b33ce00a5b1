use Rattle.row_changes.proofs.DifferenceLemmas.{goes_away, goes_back, removed_again}
use Rattle.row_changes.proofs.difference.Difference.del.Goals as goal

pub returns-then-not-del-clause-differ : goal.returns-then-not-del-clause-differ
returns-then-not-del-clause-differ c = λ first is.
    removed_again first c.args.rows.now c.del.new.self c.args.self.now.come c.args.self.now.gone c.args.row is c.del.ensures.rows c.if-not-del.ensures.removed

pub returns-in_ok-add-clause-differ : goal.returns-in_ok-add-clause-differ
returns-in_ok-add-clause-differ c = λ first is.
    goes_away first c.args.rows.now c.del.new.self c.args.self.now.come c.args.self.now.gone c.args.row is c.del.ensures.rows c.if-not-del.ensures.removed c.del-2.new.self c.del-2.ensures.rows
    c.if-not-del-2.ensures.removed c.add.new.self c.in_ok-add.ensures.ok

pub returns-else-not-del-2-clause-differ : goal.returns-else-not-del-2-clause-differ
returns-else-not-del-2-clause-differ c = λ first is.
    goes_back first c.args.rows.now c.del.new.self c.args.self.now.come c.args.self.now.gone c.args.row is c.del.ensures.rows c.if-not-del.ensures.removed c.del-2.new.self c.del-2.ensures.rows
    c.if-not-del-2.ensures.removed
