use Rattle.std.proofs.Common.{◌≡◌, ◌≤◌, ◌+◌, ◌*◌, length, take, flat_map}
use Rattle.txn_codec.specs.Spelling.{name_bytes}
use Rattle.txn_codec.proofs.ontology_writer.names_len.Given as goal

abbrev pub invariant-loop-i : goal.invariant-loop-i
invariant-loop-i l = record {
  is : l.len ≡ 2 + length (flat_map name_bytes (take l.i l.book));
  most : l.len ≤ 2 + 256 * l.i;
}
