use Rattle.axiom_reader.proofs.BlockOnce.{block_gives_once}
use Rattle.script_reader.proofs.RequestParts.{one_list}
use Rattle.script_reader.proofs.laws.has_one_list.Goals as goal

pub returns : goal.returns
returns c = one_list block_gives_once
