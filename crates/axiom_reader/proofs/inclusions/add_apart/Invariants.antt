use Rattle.std.proofs.Common.{◌≡◌, ◌++◌, drop}
use Rattle.axiom_reader.specs.AxiomMeaning.{apart}
use Rattle.axiom_reader.proofs.inclusions.add_apart.Given as goal

abbrev pub invariant-loop-i : goal.invariant-loop-i
invariant-loop-i l = l.inclusions ++ apart (drop l.i l.sides) ≡ l.fn.inclusions ++ apart l.sides
