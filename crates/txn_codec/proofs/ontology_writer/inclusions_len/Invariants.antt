use Rattle.std.proofs.Common.{◌≡◌, ◌≤◌, ◌+◌, ◌*◌, length, take, flat_map}
use Rattle.txn_codec.specs.Spelling.{inclusion_bytes}
use Rattle.txn_codec.proofs.ontology_writer.inclusions_len.Given as goal

abbrev pub invariant-loop-inclusion : goal.invariant-loop-inclusion
invariant-loop-inclusion l = record {
  is : l.len ≡ 2 + length (flat_map inclusion_bytes (take l.inclusion-index l.inclusions));
  most : l.len ≤ 2 + 28 * l.inclusion-index;
}
