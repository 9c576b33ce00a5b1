use Rattle.std.proofs.Common.{arith}
use Rattle.std.proofs.lemmas.List.Folds.{length-flat_map-take}
use Rattle.dl_base.specs.declared.concept.Basic.TheVariants as basic
use Rattle.txn_codec.specs.Spelling.{basic_bytes}
use Rattle.txn_codec.proofs.ontology_writer.put_body.Goals as goal

pub put_basic-requires-clause-room : goal.put_basic-requires-clause-room
put_basic-requires-clause-room c =
    omega (arith, c.requires.room, c.loop-member.invariant.appended.len, c.loop-member.invariant.appended.capacity, length-flat_map-take basic_bytes c.args.body.now c.loop-member.member-index (basic.Concept 0) c.loop-member-test.true)
