use Rattle.std.proofs.Common.{arith}
use Rattle.txn_codec.specs.Spelling.{inclusion_bytes}
use Rattle.txn_codec.proofs.Writing.{item_fits}
use Rattle.txn_codec.proofs.ontology_writer.put_inclusions.Goals as goal

pub put_inclusion-requires-clause-room : goal.put_inclusion-requires-clause-room
put_inclusion-requires-clause-room c =
    omega (arith, c.requires.room, c.loop-inclusion.invariant.appended.len, c.loop-inclusion.invariant.appended.capacity, item_fits inclusion_bytes c.args.inclusions.now c.loop-inclusion.inclusion-index c.inclusion-item.result c.loop-inclusion-test.true c.inclusion-item.is)
