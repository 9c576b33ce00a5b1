use Rattle.std.proofs.Common.{refl}
use Rattle.std.specs.Fmt.{digits}
use Rattle.script_tally.proofs.laws.tally_of_three.Goals as goal

pub returns : goal.returns
unfolding digits
returns c = refl
