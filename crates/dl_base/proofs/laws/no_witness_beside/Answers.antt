use Rattle.dl_base.proofs.TableExamples.{no_witness_beside}
use Rattle.dl_base.proofs.laws.no_witness_beside.Goals as goal

pub returns : goal.returns
returns c = no_witness_beside
