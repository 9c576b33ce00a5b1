use Rattle.std.proofs.Common.{refl}
use Rattle.dl_base.proofs.RowLemmas.{none_rising}
use Rattle.dl_base.specs.Rows.{numbered_row_cmp}
use Rattle.assert_tables.proofs.assertions.Assertions.new.Goals as goal

pub invariant_of-result : goal.invariant_of-result
invariant_of-result c = rw c.new.ensures (record { rising = none_rising numbered_row_cmp; rows_are = refl; individuals_are = refl })
