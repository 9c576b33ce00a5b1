use Rattle.script_reader.proofs.KeywordRules.{trimmed_by}
use Rattle.script_reader.proofs.doc_line.trimmed.Goals as goal

pub returns : goal.returns
returns c = trimmed_by c.args.text.now _ _ _ c.skip_blanks.ensures c.without_blanks_behind.ensures
