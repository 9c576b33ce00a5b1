use Rattle.std.proofs.Common.{◌≡◌, ◌-◌, length, [], All}
use Rattle.grammar.specs.Reading.{onto}
use Rattle.dl_base.specs.Ontology.{IsPlaced}
use Rattle.txn_codec.specs.OntologyReading.{each_at, member_at}
use Rattle.txn_codec.proofs.ontology_reader.read_body.Given as goal

abbrev pub invariant-loop-i : goal.invariant-loop-i
invariant-loop-i l = record {
  read : onto l.found (each_at (λ _. member_at l.concepts l.roles) l.found (l.count - l.i) l.rest) ≡ each_at (λ _. member_at l.concepts l.roles) [] l.count l.text;
  count : length l.found ≡ l.i;
  placed : All (IsPlaced l.concepts l.roles) l.found;
}
