use Rattle.base_engine.proofs.SmallHandles.{run_answers}
use Rattle.base_engine.proofs.laws.run_answers.Goals as goal

pub returns : goal.returns
returns c = run_answers
