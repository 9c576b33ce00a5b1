use Rattle.std.proofs.Common.{◌≡◌, ◌∷◌, take}
use Rattle.role_graph.proofs.levels.led_to.Given as goal

abbrev pub invariant-loop-s : goal.invariant-loop-s
invariant-loop-s l = l.path ≡ l.fn.r ∷ take l.s-index l.s-items
