use Rattle.script_reader.proofs.CommandQueries.{line_once}
use Rattle.script_reader.proofs.laws.asks_one_thing.Goals as goal

pub returns : goal.returns
returns c = line_once
