use Rattle.base_engine.proofs.SmallSteps.{ask_answers}
use Rattle.base_engine.proofs.laws.ask_answers.Goals as goal

pub returns : goal.returns
returns c = ask_answers
