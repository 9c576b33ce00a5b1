use Rattle.answer_core.proofs.KeyLemmas.{keys_are_certain}
use Rattle.answer_core.proofs.laws.keys_are_certain.Goals as goal

pub returns : goal.returns
returns c = keys_are_certain
