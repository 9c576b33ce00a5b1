use Rattle.std.proofs.lemmas.Result.{on_ok_weaker}
use Rattle.run_loop.proofs.ByteLemmas.{lines_few, tokens_of}
use Rattle.script_tally.proofs.GatherLemmas.{all_gathered, gathered_few}
use Rattle.script_tally.proofs.gathering.gather_last.Goals as goal

pub returns : goal.returns
returns c = λ read few g.
    let short = gathered_few read c.args.lines.now c.args.requests.now c.args.block g few in
    on_ok_weaker c.gather_end.result
    (all_gathered read c.args.lines.now c.args.requests.now c.args.block g c.finish-fed.result c.finish-fed.new.self c.finish-fed.ensures c.gather_end.new.requests)
    (c.gather_end.ensures _ (lines_few (tokens_of g.pieces) c.finish-fed.result c.finish-fed.new.self.bytes short) (c.in_ok-begun.ensures _ short g.gathers))
