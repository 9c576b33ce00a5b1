use Rattle.std.proofs.Common.{◌≡◌, List, subst, sym, ◌∙◌}
use Rattle.assert_tables.proofs.NamingLemmas.{all_came}
use Rattle.dl_base.specs.declared.row.Row.{Row}
use Rattle.completion.proofs.AssertedLemmas.{AreTakenFrom, added_all, added_more}
use Rattle.completion.proofs.asserted.add_from.Goals as goal

pub loop-row-preserved : goal.loop-row-preserved
loop-row-preserved c =
    added_more c.loop-row.yielded c.args.individual c.in-Some.row c.args.edges.now.items c.loop-row.edges.items c.push_from.new.edges.items c.in_ok-push_from.ensures c.loop-row.invariant

pub returns : goal.returns
returns c =
    let all = all_came c.loop-row.yielded c.into_iter-row-iterator.result c.loop-row.row-iterator c.loop-row.yielded_by c.in-None.ensures.steps.0 in
    let these : c.rows_naming-row-items.result ≡ c.loop-row.yielded = sym c.into_iter-row-iterator.ensures.into_iter_gives ∙ all in
    added_all c.args.rows.now c.rows_naming-row-items.result c.args.individual c.args.edges.now.items c.loop-row.edges.items c.rows_naming-row-items.ensures
    (subst (λ (rows : List Row). AreTakenFrom rows c.args.individual c.args.edges.now.items c.loop-row.edges.items) (sym these) c.loop-row.invariant)
