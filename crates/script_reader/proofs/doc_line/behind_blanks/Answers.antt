use Rattle.std.proofs.Common.{sym, ◌∙◌}
use Rattle.script_reader.proofs.KeywordRules.{gap_found, no_gap}
use Rattle.script_reader.proofs.doc_line.behind_blanks.Goals as goal

pub returns-then-is_empty : goal.returns-then-is_empty
returns-then-is_empty c = no_gap c.args.text.now c.skip_blanks.result.0.now c.skip_blanks.result.1.now c.skip_blanks.ensures (sym c.is_empty.ensures ∙ c.if-is_empty.true)

pub returns-else-is_empty : goal.returns-else-is_empty
returns-else-is_empty c = gap_found c.args.text.now c.skip_blanks.result.0.now c.skip_blanks.result.1.now c.skip_blanks.ensures (sym c.is_empty.ensures ∙ c.if-is_empty.false)
