use Rattle.std.proofs.Common.{◌≡◌, drop}
use Rattle.grammar.specs.Reading.{expect_at}
use Rattle.grammar.proofs.bytes.expect.Given as goal

abbrev pub invariant-loop-byte : goal.invariant-loop-byte
invariant-loop-byte l = expect_at (drop l.byte-index l.expected) l.rest ≡ expect_at l.expected l.text
