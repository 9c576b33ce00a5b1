use Rattle.std.proofs.Common.{◌++◌, length, take, flat_map}
use Rattle.byteorder.specs.Endian.{big_bytes}
use Rattle.txn_codec.specs.Spelling.{inclusion_bytes}
use Rattle.txn_codec.specs.Room.{Appends}
use Rattle.txn_codec.proofs.ontology_writer.put_inclusions.Given as goal

abbrev pub invariant-loop-inclusion : goal.invariant-loop-inclusion
invariant-loop-inclusion l = record {
  appended : Appends l.fn.out l.out (big_bytes 2 (length l.inclusions) ++ flat_map inclusion_bytes (take l.inclusion-index l.inclusions));
}
