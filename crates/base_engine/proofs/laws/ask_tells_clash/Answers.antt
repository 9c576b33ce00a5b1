use Rattle.base_engine.proofs.SmallSteps.{ask_tells_clash}
use Rattle.base_engine.proofs.laws.ask_tells_clash.Goals as goal

pub returns : goal.returns
returns c = ask_tells_clash
