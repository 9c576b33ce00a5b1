use Rattle.std.proofs.Common.{◌≡◌, ◌≤◌, ◌+◌, ◌-◌, drop}
use Rattle.grammar.specs.Bytes.{is_kind}
use Rattle.grammar.specs.Reading.{run_len}
use Rattle.grammar.proofs.bytes.run_len.Given as goal

abbrev pub invariant-loop-byte : goal.invariant-loop-byte
invariant-loop-byte l = (l.n ≡ l.byte-index) × (l.n ≤ l.most) × (l.n + run_len (is_kind l.kind) (l.most - l.n) (drop l.n l.text) ≡ run_len (is_kind l.kind) l.most l.text)
