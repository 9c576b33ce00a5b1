use Rattle.axiom_reader.proofs.BlockOnce.{block_gives_once}
use Rattle.script_reader.proofs.RequestParts.{go_on}
use Rattle.script_reader.proofs.laws.requests_go_on.Goals as goal

pub returns : goal.returns
returns c = go_on block_gives_once
