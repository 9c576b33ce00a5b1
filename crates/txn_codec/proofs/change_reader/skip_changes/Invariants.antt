use Rattle.std.proofs.Common.{◌≡◌, ◌-◌}
use Rattle.txn_codec.specs.ChangesReading.{change_at}
use Rattle.txn_codec.specs.PiecesReading.{times_at}
use Rattle.txn_codec.specs.Skimming.{behind}
use Rattle.txn_codec.proofs.change_reader.skip_changes.Given as goal

abbrev pub invariant-loop : goal.invariant-loop
invariant-loop l = behind (times_at change_at (l.count - l.counter) l.rest) ≡ behind (times_at change_at l.count l.text)
