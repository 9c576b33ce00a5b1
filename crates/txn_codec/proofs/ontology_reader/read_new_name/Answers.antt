use Rattle.std.proofs.Common.{subst, sym, Contains, List, ℕ}
use Rattle.txn_codec.proofs.WholeOntology.{some_bytes, known_name, unknown_name, contains_at}
use Rattle.txn_codec.proofs.ontology_reader.read_new_name.Goals as goal

pub overflow_sub-result : goal.overflow_sub-result
overflow_sub-result c = some_bytes c.args.text.now _ c.in_ok-name.ensures

pub returns-in-Some-clause-read : goal.returns-in-Some-clause-read
returns-in-Some-clause-read c =
    let there : Contains c.args.book.now c.bytes.result.now = contains_at c.args.book.now c.in-Some.field-0 c.bytes.result.now c.in-Some.ensures in
    known_name c.args.book.now c.args.text.now c.in_ok-name.name c.in_ok-name.rest.now c.in_ok-name.ensures (subst (λ (n : List ℕ). Contains c.args.book.now n) c.bytes.ensures.bytes there)

pub returns-clause-read : goal.returns-clause-read
returns-clause-read c =
    unknown_name c.args.book.now c.args.text.now c.in_ok-name.name c.in_ok-name.rest.now c.in_ok-name.ensures
    (λ there. c.in-None.ensures (subst (λ (n : List ℕ). Contains c.args.book.now n) (sym c.bytes.ensures.bytes) there))
