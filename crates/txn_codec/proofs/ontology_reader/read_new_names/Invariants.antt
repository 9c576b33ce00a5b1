use Rattle.std.proofs.Common.{◌≡◌, ◌-◌, length, []}
use Rattle.grammar.specs.Reading.{onto}
use Rattle.txn_codec.specs.OntologyReading.{each_at, new_name_at}
use Rattle.txn_codec.proofs.ontology_reader.read_new_names.Given as goal

abbrev pub invariant-loop-i : goal.invariant-loop-i
invariant-loop-i l = record {
  read : onto l.book (each_at new_name_at l.book (l.count - l.i) l.rest) ≡ each_at new_name_at [] l.count l.text;
  count : length l.book ≡ l.i;
}
