use Rattle.std.proofs.Common.{◌∷◌, length, take, flat_map}
use Rattle.txn_codec.specs.Spelling.{basic_bytes}
use Rattle.txn_codec.specs.Room.{Appends}
use Rattle.txn_codec.proofs.ontology_writer.put_body.Given as goal

abbrev pub invariant-loop-member : goal.invariant-loop-member
invariant-loop-member l = record {
  appended : Appends l.fn.out l.out (length l.body ∷ flat_map basic_bytes (take l.member-index l.body));
}
