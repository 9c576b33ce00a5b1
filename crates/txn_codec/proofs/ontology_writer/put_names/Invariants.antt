use Rattle.std.proofs.Common.{◌++◌, length, take, flat_map, All}
use Rattle.byteorder.specs.Endian.{big_bytes}
use Rattle.dl_base.specs.Names.{IsName}
use Rattle.txn_codec.specs.Spelling.{name_bytes}
use Rattle.txn_codec.specs.Room.{Appends}
use Rattle.txn_codec.proofs.ontology_writer.put_names.Given as goal

abbrev pub invariant-loop-i : goal.invariant-loop-i
invariant-loop-i l = record {
  appended : Appends l.fn.out l.out (big_bytes 2 (length l.book) ++ flat_map name_bytes (take l.i l.book));
  names : All IsName (take l.i l.book);
}
