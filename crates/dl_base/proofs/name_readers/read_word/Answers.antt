use Rattle.std.proofs.Common.{sym, ◌∙◌}
use Rattle.dl_base.proofs.Words.{run_is_word}
use Rattle.dl_base.proofs.name_readers.read_word.Goals as goal

pub returns-clause-word : goal.returns-clause-word
returns-clause-word c = (run_is_word c.args.text.now c.run.result.0.now c.run.result.1.now (sym c.next_is_kind.ensures ∙ c.if-not-next_is_kind.false) c.run.ensures).0

pub returns-clause-short : goal.returns-clause-short
returns-clause-short c = (run_is_word c.args.text.now c.run.result.0.now c.run.result.1.now (sym c.next_is_kind.ensures ∙ c.if-not-next_is_kind.false) c.run.ensures).1
