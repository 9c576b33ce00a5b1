use Rattle.std.proofs.Common.{◌<◌, ◌≤◌, length, arith, All, List, ℕ, subst}
use Rattle.std.proofs.lemmas.List.{take_all}
use Rattle.byteorder.specs.Endian.{big_bytes}
use Rattle.dl_base.specs.Names.{IsName}
use Rattle.txn_codec.specs.Spelling.{name_bytes}
use Rattle.txn_codec.proofs.Writing.{item_fits, appends_item, all_more}
use Rattle.txn_codec.proofs.SpelledOntology.{item_of}
use Rattle.txn_codec.proofs.ontology_writer.put_names.Goals as goal

pub put_name-requires : goal.put_name-requires
put_name-requires c =
    let below : c.loop-i.i < length c.args.book.now = omega (arith, c.len-count.ensures.len) in
    omega (arith, c.requires.room, c.loop-i.invariant.appended.len, c.loop-i.invariant.appended.capacity, item_fits name_bytes c.args.book.now c.loop-i.i c.name.result.now below (item_of c.args.book.now c.loop-i.i c.name.result.now c.name.ensures))

pub loop-i-preserved : goal.loop-i-preserved
loop-i-preserved c =
    let below : c.loop-i.i < length c.args.book.now = omega (arith, c.len-count.ensures.len) in
    let is = item_of c.args.book.now c.loop-i.i c.name.result.now c.name.ensures in
    record {
      appended = appends_item (big_bytes 2 (length c.args.book.now)) name_bytes c.args.book.now c.loop-i.i c.name.result.now below is c.loop-i.invariant.appended c.put_name.ensures.appended;
      names = all_more IsName c.args.book.now c.loop-i.i c.name.result.now below is c.loop-i.invariant.names c.put_name.ensures.name;
    }

pub returns-clause-names : goal.returns-clause-names
returns-clause-names c =
    let end : length c.args.book.now ≤ c.loop-i.i = omega (arith, c.len-count.ensures.len) in
    subst (λ (l : List (List ℕ)). All IsName l) (take_all c.loop-i.i c.args.book.now end) c.loop-i.invariant.names
