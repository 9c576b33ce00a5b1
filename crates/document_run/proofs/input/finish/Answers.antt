use Rattle.document_run.proofs.InputLemmas.{finished_more, finished_line, finished_long_line}
use Rattle.document_run.proofs.input.finish.Goals as goal

pub returns-in-More-clause-read : goal.returns-in-More-clause-read
returns-in-More-clause-read c = λ read few r.
    finished_more read c.args.lines c.finish.new.self c.args.draft _ few r c.finish.result c.finish.ensures c.in-More.is c.finish-in-More.ensures.whole

pub returns-in-Ok-clause-read : goal.returns-in-Ok-clause-read
returns-in-Ok-clause-read c = λ read few r.
    finished_line read c.args.lines c.finish.new.self c.args.draft _ few r c.finish.result c.finish.ensures c.in-Line.is
    _ c.line.ensures _ c.in-Ok.ensures c.finish-in-Ok.ensures.whole

pub returns-clause-read : goal.returns-clause-read
returns-clause-read c = λ read few r.
    finished_long_line read c.args.lines c.finish.new.self c.args.draft _ few r c.finish.result c.finish.ensures c.in-TooLong.is
    _ c.take_long_line.ensures c.finish-in-TooLong.ensures.whole
