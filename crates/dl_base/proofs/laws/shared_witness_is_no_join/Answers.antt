use Rattle.dl_base.proofs.ShortExamples.{shared_witness_is_no_join}
use Rattle.dl_base.proofs.laws.shared_witness_is_no_join.Goals as goal

pub returns : goal.returns
returns c = shared_witness_is_no_join
