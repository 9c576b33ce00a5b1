use Rattle.std.proofs.Common.{◌≡◌, filter, subst}
use Rattle.std.specs.BTreeMap.Range.{range_contains}
use Rattle.std.specs.declared.ops.Bound.{Bound}
use Rattle.std.specs.declared.ops.Bound.TheVariants.{Unbounded}
use Rattle.assert_tables.specs.contracts.row_set.MentionOrd.TheImpl.{cmp-value as mention_order}
use Rattle.assert_tables.specs.declared.row_set.Mention.{Mention}
use Rattle.assert_tables.proofs.NamingLemmas.{naming_are}
use Rattle.assert_tables.proofs.row_set.RowSet.rows_naming.Goals as goal

pub returns : goal.returns
returns c = rw (c.new.ensures, ← c.self.view_is) (naming_are c.self.inside.mentions.keys c.args.individual c.range.result c.self.invariant c.range.ensures.ordered
    (subst (λ (start : Bound Mention). c.range.result ≡ filter (range_contains mention_order.it start Unbounded) c.self.inside.mentions.keys) c.start_of-start.ensures (c.range.ensures.between tt)))
