use Rattle.std.proofs.Common.{◌≡◌, take}
use Rattle.horn_closure.proofs.rules.copy_names.Given as goal

abbrev pub invariant-loop-id : goal.invariant-loop-id
invariant-loop-id l = l.names ≡ take l.id l.book
