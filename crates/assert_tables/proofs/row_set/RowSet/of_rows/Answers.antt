use Rattle.std.proofs.Common.{◌≡◌, ◌∙◌, ℕ, List, length, map, ap, subst}
use Rattle.assert_tables.specs.Gathered.{AreBeside}
use Rattle.assert_tables.specs.Mentions.{rows_of}
use Rattle.assert_tables.specs.declared.row_set.Mention.{Mention}
use Rattle.assert_tables.proofs.GatheredLemmas.{beside_same, made_are, made_rows, named_all}
use Rattle.assert_tables.proofs.MentionLemmas.{rows_rise}
use Rattle.assert_tables.proofs.row_set.RowSet.of_rows.Goals as goal

beside : (c : goal.In_ok-mentions) → AreBeside c.args.rows.now c.in_order-mentions.result.items
beside c = beside_same c.args.rows.now _ _ c.in_order-mentions.ensures.same c.in_ok-mentions_of.ensures

pub invariant_of-result : goal.invariant_of-result
invariant_of-result c = made_are c.args.rows.now _ _ (beside c) c.in_ok-mentions.ensures

pub returns-clause-rising : goal.returns-clause-rising
returns-clause-rising c = rows_rise c.in_ok-mentions.mentions.keys

pub returns-clause-rows : goal.returns-clause-rows
returns-clause-rows c = made_rows c.args.rows.now _ _ (beside c) c.in_ok-mentions.ensures

pub returns-clause-individuals : goal.returns-clause-individuals
returns-clause-individuals c =
    let rows = rows_of c.in_ok-mentions.mentions.keys in
    let names = subst (λ (ms : List Mention). c.in_ok-individuals.field-0.items ≡ map (λ m. m.individual) ms) c.as_slice.ensures.value c.in_ok-individuals.ensures in
    let all = named_all c.args.rows.now rows c.in_order-mentions.result.items c.in_ok-individuals.field-0.items c.in_order.result.items (beside c)
    (made_rows c.args.rows.now _ _ (beside c) c.in_ok-mentions.ensures) names c.in_order.ensures.rising c.in_order.ensures.same in
    c.len-individuals.ensures ∙ c.in_order.result.ok.0 ∙ ap (λ (xs : List ℕ). length xs) all
