use Rattle.dl_base.proofs.TableExamples.{witness_stands}
use Rattle.dl_base.proofs.laws.witness_stands.Goals as goal

pub returns : goal.returns
returns c = witness_stands
