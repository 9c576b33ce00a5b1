use Rattle.std.proofs.Common.{All, length, take, ◌++◌, flat_map}
use Rattle.byteorder.specs.Endian.{big_bytes}
use Rattle.txn_codec.specs.Spelling.{change_bytes, HasNames}
use Rattle.txn_codec.specs.Room.{Appends}
use Rattle.txn_codec.proofs.changes.put_changes.Given as goal

abbrev pub invariant-loop-change : goal.invariant-loop-change
invariant-loop-change l = record {
  appended : Appends l.fn.out l.out (big_bytes 4 (length l.changes) ++ flat_map change_bytes (take l.change-index l.changes));
  names : All (λ c. HasNames c.row) (take l.change-index l.changes);
}
