use Rattle.std.proofs.Common.{◌∷◌, [], ◌∙◌, sym, arith, length-append}
use Rattle.std.proofs.lemmas.List.Elements.{All-push}
use Rattle.dl_base.specs.Ontology.{IsPlaced}
use Rattle.txn_codec.specs.OntologyReading.{member_at}
use Rattle.txn_codec.proofs.ChecksLists.{onto_each-some}
use Rattle.txn_codec.proofs.ontology_reader.read_body.Goals as goal

pub loop-i-preserved : goal.loop-i-preserved
loop-i-preserved c =
    rw c.in_ok-push.ensures.ok record {
      read = sym (onto_each-some (λ _. member_at c.args.concepts c.args.roles) c.loop-i.found c.args.count c.loop-i.i c.loop-i.rest.now c.in_ok-member.member c.in_ok-member.after.now c.loop-i-test.true c.in_ok-member.ensures.read) ∙ c.loop-i.invariant.read;
      count = omega (arith, c.loop-i.invariant.count, length-append c.loop-i.found (c.in_ok-member.member ∷ []));
      placed = All-push (IsPlaced c.args.concepts c.args.roles) c.loop-i.found c.in_ok-member.member c.loop-i.invariant.placed c.in_ok-member.ensures.placed;
    }
