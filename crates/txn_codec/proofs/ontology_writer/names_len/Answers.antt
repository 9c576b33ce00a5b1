use Rattle.std.proofs.Common.{◌<◌, length, arith}
use Rattle.txn_codec.specs.Spelling.{name_bytes}
use Rattle.txn_codec.proofs.Writing.{length-flat_more}
use Rattle.txn_codec.proofs.SpelledOntology.{item_of}
use Rattle.txn_codec.proofs.ontology_writer.names_len.Goals as goal

pub loop-i-preserved : goal.loop-i-preserved
loop-i-preserved c =
    let below : c.loop-i.i < length c.args.book.now = omega (arith, c.len-count.ensures.len) in
    let more = length-flat_more name_bytes c.args.book.now c.loop-i.i c.name.result.now below (item_of c.args.book.now c.loop-i.i c.name.result.now c.name.ensures) in
    record { is = omega (arith, more, c.loop-i.invariant.is, c.name_len-len.ensures.len); most = omega (arith, c.loop-i.invariant.most, c.name_len-len.ensures.most) }
