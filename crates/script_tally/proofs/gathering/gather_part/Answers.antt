use Rattle.script_tally.proofs.GatherLemmas.{bytes_gathered, gathered_few}
use Rattle.script_tally.proofs.gathering.gather_part.Goals as goal

pub returns-clause-gathers : goal.returns-clause-gathers
returns-clause-gathers c = λ read few g.
    bytes_gathered read c.args.lines.now c.args.requests.now c.args.block g c.args.bytes.now c.feed-count.result.0 c.feed-count.result.1 c.feed-count.new.self c.feed-count.ensures.tells c.gather_fed.new.requests c.in_ok-begun.begun
    (c.in_ok-begun.ensures _ (gathered_few read c.args.lines.now c.args.requests.now c.args.block g few) g.gathers)
