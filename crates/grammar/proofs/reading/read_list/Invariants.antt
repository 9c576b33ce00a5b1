use Rattle.std.proofs.Common.{◌≡◌, ◌+◌, ◌-◌, [], ◌∷◌, length}
use Rattle.grammar.specs.Reading.{until_at, onto}
use Rattle.grammar.proofs.reading.read_list.Given as goal

abbrev pub invariant-loop-i : goal.invariant-loop-i
invariant-loop-i g l = onto l.items (until_at g.L.ListTail.another_at (length l.text + 1 - l.i) l.i l.rest)
    ≡ onto (l.fn.first ∷ []) (until_at g.L.ListTail.another_at (length l.text + 1) 0 l.text)
