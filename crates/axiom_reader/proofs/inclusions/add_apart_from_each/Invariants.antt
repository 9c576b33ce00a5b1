use Rattle.std.proofs.Common.{◌≡◌, ◌++◌, take}
use Rattle.axiom_reader.specs.AxiomMeaning.{apart_from_each}
use Rattle.axiom_reader.proofs.inclusions.add_apart_from_each.Given as goal

abbrev pub invariant-loop-other : goal.invariant-loop-other
invariant-loop-other l = l.inclusions ≡ l.fn.inclusions ++ apart_from_each l.side (take l.other-index l.others)
