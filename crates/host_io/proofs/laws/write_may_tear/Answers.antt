use Rattle.host_io.proofs.LawLemmas.{write_may_tear}
use Rattle.host_io.proofs.laws.write_may_tear.Goals as goal

pub returns : goal.returns
returns c = write_may_tear
