use Rattle.std.proofs.Common.{◌∷◌, [], ◌∙◌, sym, arith, length-append}
use Rattle.std.proofs.lemmas.List.Elements.{All-push}
use Rattle.std.proofs.lemmas.Result.{err_from_is_err_and}
use Rattle.dl_base.specs.Ontology.{IsWithin}
use Rattle.txn_codec.specs.OntologyReading.{inclusion_at}
use Rattle.txn_codec.proofs.ChecksLists.{onto_each-some, each_fails}
use Rattle.txn_codec.proofs.ontology_reader.read_inclusions.Goals as goal

pub returns-in_err-inclusion-clause-read : goal.returns-in_err-inclusion-clause-read
returns-in_err-inclusion-clause-read c =
    let p = err_from_is_err_and c.from_residual-in_err-inclusion.result c.from_residual-in_err-inclusion.ensures.1 in
    rw (p.1, p.2) (each_fails c.in_err-inclusion.field-0.0 (λ _. inclusion_at c.args.concepts c.args.roles) c.loop-i.found.items c.args.count c.loop-i.i c.loop-i.rest.now _ c.loop-i-test.true c.in_err-inclusion.ensures.read c.loop-i.invariant.read)

pub loop-i-preserved : goal.loop-i-preserved
loop-i-preserved c =
    rw c.in_ok-push.ensures.items record {
      read = sym (onto_each-some (λ _. inclusion_at c.args.concepts c.args.roles) c.loop-i.found.items c.args.count c.loop-i.i c.loop-i.rest.now c.in_ok-inclusion.inclusion c.in_ok-inclusion.after.now c.loop-i-test.true c.in_ok-inclusion.ensures.read) ∙ c.loop-i.invariant.read;
      count = omega (arith, c.loop-i.invariant.count, length-append c.loop-i.found.items (c.in_ok-inclusion.inclusion ∷ []));
      within = All-push (IsWithin c.args.concepts c.args.roles) c.loop-i.found.items c.in_ok-inclusion.inclusion c.loop-i.invariant.within c.in_ok-inclusion.ensures.within;
    }
