use Rattle.axiom_reader.proofs.BlockRules.{skips_at_end, skips_before}
use Rattle.axiom_reader.proofs.block.is_skipped.Goals as goal

pub returns-then-is_empty : goal.returns-then-is_empty
returns-then-is_empty c = skips_at_end c.args.text.now _ _ c.is_empty.result c.skip_blanks.ensures c.is_empty.ensures c.if-is_empty.true

pub returns-else-is_empty : goal.returns-else-is_empty
returns-else-is_empty c = skips_before c.args.text.now _ _ c.is_empty.result c.next_is_byte.result c.skip_blanks.ensures c.is_empty.ensures c.if-is_empty.false c.next_is_byte.ensures
