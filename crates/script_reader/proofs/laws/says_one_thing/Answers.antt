use Rattle.script_reader.proofs.LineRules.{line_once}
use Rattle.script_reader.proofs.laws.says_one_thing.Goals as goal

pub returns : goal.returns
returns c = line_once
