use Rattle.std.proofs.Common.{sym, subst}
use Rattle.join_ops.specs.Matching.{GoesTo, HasMatchesLeft, PlannedSearch}
use Rattle.join_ops.proofs.PlannedLemmas.{goes_to}
use Rattle.join_ops.proofs.matches.Matches.advance.Goals as goal

pub returns-then-found-clause-goes : goal.returns-then-found-clause-goes
returns-then-found-clause-goes g c = λ left has.
    let rows = g.T.Tables.rows c.args.t.now in
    let m : PlannedSearch = record { levels = c.self.inside.levels; search = c.self.inside.search } in
    subst (λ (p : PlannedSearch). GoesTo rows p.search.place left c.advance-found.result (record { levels = c.self.inside.levels; search = c.advance-found.new.self })) c.self.view_is
    (goes_to rows m left (subst (λ (p : PlannedSearch). HasMatchesLeft rows p left) (sym c.self.view_is) has) c.advance-found.new.self c.advance-found.ensures.fixed c.advance-found.result c.advance-found.ensures.goes)

pub returns-else-found-clause-goes : goal.returns-else-found-clause-goes
returns-else-found-clause-goes g c = λ left has.
    let rows = g.T.Tables.rows c.args.t.now in
    let m : PlannedSearch = record { levels = c.self.inside.levels; search = c.self.inside.search } in
    subst (λ (p : PlannedSearch). GoesTo rows p.search.place left c.advance-found.result (record { levels = c.self.inside.levels; search = c.advance-found.new.self })) c.self.view_is
    (goes_to rows m left (subst (λ (p : PlannedSearch). HasMatchesLeft rows p left) (sym c.self.view_is) has) c.advance-found.new.self c.advance-found.ensures.fixed c.advance-found.result c.advance-found.ensures.goes)
