use Rattle.script_reader.proofs.KeywordRules.{keyword_then, keyword_absent}
use Rattle.script_reader.proofs.doc_line.behind.Goals as goal

pub returns-in-Some : goal.returns-in-Some
returns-in-Some c = keyword_then c.args.keyword.now c.args.text.now c.in-Some.rest.now c.behind_blanks.result c.in-Some.ensures.cases.0 c.in-Some.ensures.cases.1 c.behind_blanks.ensures

pub returns-in-None : goal.returns-in-None
returns-in-None c = keyword_absent c.args.keyword.now c.args.text.now c.in-None.ensures.cases
