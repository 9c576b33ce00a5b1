use Rattle.std.proofs.Common.{◌≡◌, ◌++◌}
use Rattle.txn_codec.proofs.changes_reader.list_of.Given as goal

abbrev pub invariant-loop-change : goal.invariant-loop-change
invariant-loop-change l = l.changes.items ++ l.change-iterator ≡ l.fn.reader
