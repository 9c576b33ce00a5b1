use Rattle.std.proofs.Common.{◌≡◌, length, map, take}
use Rattle.horn_closure.proofs.rules.body_lengths.Given as goal

abbrev pub invariant-loop-inclusion : goal.invariant-loop-inclusion
invariant-loop-inclusion l = l.lengths.items ≡ map (λ i. length i.body) (take l.inclusion-index l.inclusions)
