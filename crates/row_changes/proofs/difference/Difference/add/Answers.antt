use Rattle.std.proofs.Common.{Bool, Contains, subst}
use Rattle.std.specs.Prelude.{MatchBool}
use Rattle.row_changes.proofs.DifferenceLemmas.{added_again, comes_back, comes_new}
use Rattle.row_changes.proofs.difference.Difference.add.Goals as goal

pub returns-then-not-branch-clause-differ : goal.returns-then-not-branch-clause-differ
returns-then-not-branch-clause-differ c = λ first is.
    let there = subst (λ (b : Bool). MatchBool b (Contains c.args.rows.now c.args.row → ⊥) (Contains c.args.rows.now c.args.row)) c.if-not-branch.true c.in_ok-add.ensures.added in
    added_again first c.args.rows.now c.add.new.self c.args.self.now.come c.args.self.now.gone c.args.row is c.in_ok-add.ensures.ok there

pub returns-in_ok-add-2-clause-differ : goal.returns-in_ok-add-2-clause-differ
returns-in_ok-add-2-clause-differ c = λ first is.
    let absent = subst (λ (b : Bool). MatchBool b (Contains c.args.rows.now c.args.row → ⊥) (Contains c.args.rows.now c.args.row)) c.if-not-branch.false c.in_ok-add.ensures.added in
    comes_new first c.args.rows.now c.add.new.self c.args.self.now.come c.args.self.now.gone c.args.row is c.in_ok-add.ensures.ok absent c.del.new.self c.del.ensures.rows
    c.if-not-del.ensures.removed c.add-then-not-del.new.self c.in_ok-add-2.ensures.ok

pub returns-else-not-del-clause-differ : goal.returns-else-not-del-clause-differ
returns-else-not-del-clause-differ c = λ first is.
    let absent = subst (λ (b : Bool). MatchBool b (Contains c.args.rows.now c.args.row → ⊥) (Contains c.args.rows.now c.args.row)) c.if-not-branch.false c.in_ok-add.ensures.added in
    comes_back first c.args.rows.now c.add.new.self c.args.self.now.come c.args.self.now.gone c.args.row is c.in_ok-add.ensures.ok absent c.del.new.self c.del.ensures.rows c.if-not-del.ensures.removed
