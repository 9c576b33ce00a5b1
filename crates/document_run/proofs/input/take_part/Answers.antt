use Rattle.document_run.proofs.InputLemmas.{more_told, line_taken, long_line_taken}
use Rattle.document_run.proofs.input.take_part.Goals as goal

pub returns-in-More-clause-reading : goal.returns-in-More-clause-reading
returns-in-More-clause-reading c = λ read few r.
    more_told read _ _ c.args.bytes.now c.feed-count.result.0 c.args.draft r (c.feed-count.ensures.so_far read r.held) _ c.feed-count.ensures.tells c.in-More.is

pub returns-in_ok-take_line-in-Line-clause-reading : goal.returns-in_ok-take_line-in-Line-clause-reading
returns-in_ok-take_line-in-Line-clause-reading c = λ read few r.
    line_taken read _ _ c.args.bytes.now c.feed-count.result.0 c.args.draft r (c.feed-count.ensures.so_far read r.held) _ c.feed-count.ensures.tells c.in-Line.is
    few _ c.line.ensures _ c.in_ok-take_line-in-Line.ensures

pub returns-in-TooLong-clause-reading : goal.returns-in-TooLong-clause-reading
returns-in-TooLong-clause-reading c = λ read few r.
    long_line_taken read _ _ c.args.bytes.now c.feed-count.result.0 c.args.draft r (c.feed-count.ensures.so_far read r.held) _ c.feed-count.ensures.tells c.in-TooLong.is
    few _ c.take_long_line.ensures
