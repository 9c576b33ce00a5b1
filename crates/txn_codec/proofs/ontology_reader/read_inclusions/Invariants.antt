use Rattle.std.proofs.Common.{◌≡◌, ◌-◌, length, [], All}
use Rattle.grammar.specs.Reading.{onto}
use Rattle.dl_base.specs.Ontology.{IsWithin}
use Rattle.txn_codec.specs.OntologyReading.{each_at, inclusion_at}
use Rattle.txn_codec.proofs.ontology_reader.read_inclusions.Given as goal

abbrev pub invariant-loop-i : goal.invariant-loop-i
invariant-loop-i l = record {
  read : onto l.found.items (each_at (λ _. inclusion_at l.concepts l.roles) l.found.items (l.count - l.i) l.rest) ≡ each_at (λ _. inclusion_at l.concepts l.roles) [] l.count l.text;
  count : length l.found.items ≡ l.i;
  within : All (IsWithin l.concepts l.roles) l.found.items;
}
