use Rattle.std.proofs.Common.{◌≡◌, ◌++◌, ◌∷◌, [], ◌∙◌, sym, arith, length-append}
use Rattle.txn_codec.specs.OntologyReading.{new_name_at}
use Rattle.txn_codec.proofs.ChecksLists.{onto_each-some}
use Rattle.txn_codec.proofs.ontology_reader.read_new_names.Goals as goal

pub loop-i-preserved : goal.loop-i-preserved
loop-i-preserved c =
    let new : c.intern.new.self ≡ c.loop-i.book ++ c.in_ok-name.name ∷ [] = c.in_ok-intern.ensures.ok.added c.in_ok-name.ensures.new in
    record {
      read = rw new (sym (onto_each-some new_name_at c.loop-i.book c.args.count c.loop-i.i c.loop-i.rest.now c.in_ok-name.name c.in_ok-name.after.now c.loop-i-test.true c.in_ok-name.ensures.read) ∙ c.loop-i.invariant.read);
      count = rw new (omega (arith, c.loop-i.invariant.count, length-append c.loop-i.book (c.in_ok-name.name ∷ [])));
    }
