use Rattle.script_reader.proofs.FeedingLemmas as feeding
use Rattle.script_reader.proofs.laws.kept_gives_line.Goals as goal

pub returns : goal.returns
returns c = feeding.kept_gives_line
