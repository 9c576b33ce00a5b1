use Rattle.std.proofs.Common.{ap, inl, inr, map, sym, subst, length, ◌≡◌, ◌∙◌}
use Rattle.std.proofs.lemmas.List.{with_items_is}
use Rattle.join_ops.specs.Joins.{Search, AreLeft}
use Rattle.join_ops.specs.Levels.{fixed_on}
use Rattle.join_ops.proofs.LeftLemmas.{advances}
use Rattle.join_ops.proofs.by_levels.LevelSearch.advance.Goals as goal
use Rattle.join_ops.proofs.by_levels.LevelSearch.advance.Goals.{then-found, else-found}

pub returns-clause-goes : goal.returns-clause-goes
returns-clause-goes g c = λ left are.
    let rows = g.T.Tables.rows c.args.t.now in
    let own = c.self.inside in
    let here = subst (λ (s : Search). AreLeft rows s left) (sym c.self.view_is) are in
    let long : length c.resume-found.new.elements ≡ own.elements.len = c.resume-found.auto.elements ∙ ap length c.as_mut_slice.ensures.value ∙ sym own.elements.ok.0 in
    rw (with_items_is own.elements c.resume-found.new.elements long)
    (advances rows own.conditions.items (map fixed_on own.levels.items) own.at c.if-found.self own.elements.items c.resume-found.new.elements left c.resume-found.result here
    (rw (c.as_slice.ensures.value, c.as_slice-2.ensures.value, c.as_mut_slice.ensures.value) at c.resume-found.ensures)
    (elim c.if-found.branch [ then-found w ↦ inl (w.if-found.true, w.self-is) | else-found w ↦ inr (w.if-found.false, w.self-is) ]))
