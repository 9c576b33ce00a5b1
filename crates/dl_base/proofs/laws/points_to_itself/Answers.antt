use Rattle.dl_base.proofs.TableExamples.{points_to_itself}
use Rattle.dl_base.proofs.laws.points_to_itself.Goals as goal

pub returns : goal.returns
returns c = points_to_itself
