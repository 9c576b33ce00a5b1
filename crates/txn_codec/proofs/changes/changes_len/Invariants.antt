use Rattle.std.proofs.Common.{◌≡◌, ◌≤◌, ◌+◌, ◌*◌, length, take, flat_map}
use Rattle.txn_codec.specs.Spelling.{change_bytes}
use Rattle.txn_codec.proofs.changes.changes_len.Given as goal

abbrev pub invariant-loop-change : goal.invariant-loop-change
invariant-loop-change l = record {
  is : l.len ≡ 4 + length (flat_map change_bytes (take l.change-index l.changes));
  most : l.len ≤ 4 + 770 * l.change-index;
}
