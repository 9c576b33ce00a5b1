use Rattle.std.proofs.Common.{◌<◌, arith}
use Rattle.kept_base.specs.Committing.{IsLimit, end_of}
use Rattle.kept_base.proofs.contents.limit.Goals.{then-rows-gt-ROWS-via-then-rows-gt-ROWS, then-rows-gt-ROWS-via-else-rows-gt-ROWS+then-individuals-gt-INDIVIDUALS}
use Rattle.kept_base.proofs.contents.limit.Goals as goal

pub returns-then-rows-gt-ROWS-clause-within : goal.returns-then-rows-gt-ROWS-clause-within
returns-then-rows-gt-ROWS-clause-within c = IsLimit.crowded (λ few. elim c.then-rows-gt-ROWS.branch [
  | then-rows-gt-ROWS-via-then-rows-gt-ROWS w ↦ omega (arith, w.if-rows-gt-ROWS.true, c.rows.ensures.count, few.few_rows)
  | then-rows-gt-ROWS-via-else-rows-gt-ROWS+then-individuals-gt-INDIVIDUALS w ↦ omega (arith, w.if-individuals-gt-INDIVIDUALS.true, w.individuals.ensures, few.few_individuals)
])

pub returns-else-fits-clause-within : goal.returns-else-fits-clause-within
returns-else-fits-clause-within c =
    let past : 1073741824 < end_of c.args.store.now c.args.changes.now = grind (arith, c.if-fits.ensures, c.if-fits.false, c.changes_len.ensures.len) in
    IsLimit.full (record {
      few_rows = omega (arith, c.if-rows-gt-ROWS.false, c.rows.ensures.count);
      few_individuals = omega (arith, c.if-individuals-gt-INDIVIDUALS.false, c.individuals.ensures);
    }) past
