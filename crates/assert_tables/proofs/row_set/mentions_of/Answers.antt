use Rattle.std.proofs.Common.{◌∷◌, [], ◌++◌, ◌∙◌, ap}
use Rattle.std.proofs.lemmas.List.{get_or_default}
use Rattle.assert_tables.specs.declared.row_set.Mention.{Mention}
use Rattle.assert_tables.proofs.GatheredLemmas.{beside_all, beside_more}
use Rattle.assert_tables.proofs.row_set.mentions_of.Goals as goal

pub loop-row-preserved : goal.loop-row-preserved
loop-row-preserved c =
    beside_more c.args.rows.now c.loop-row.row-index _ _ _ _ c.loop-row-test.true (get_or_default c.args.rows.now c.loop-row.row-index _ _ c.loop-row-test.true)
    (c.in_ok-push.ensures.items ∙ ap (λ (m : Mention). c.loop-row.mentions.items ++ m ∷ []) c.first_mention.ensures)
    (c.in_ok-push-2.ensures.items ∙ ap (λ (m : Mention). c.push.new.self.items ++ m ∷ []) c.last_mention.ensures)
    c.loop-row.invariant

pub returns : goal.returns
returns c = beside_all c.args.rows.now c.loop-row.row-index _ c.loop-row-test.false c.loop-row.invariant
