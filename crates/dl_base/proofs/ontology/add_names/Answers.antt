use Rattle.std.proofs.Common.{◌≡◌, ◌+◌, length, take, arith, ap}
use Rattle.dl_base.specs.Axiom.{with_names}
use Rattle.dl_base.proofs.ExtendLemmas.{book_more, names_too_many}
use Rattle.dl_base.proofs.ontology.add_names.Goals as goal

pub returns-then-len-most-clause-ok : goal.returns-then-len-most-clause-ok
returns-then-len-most-clause-ok c =
    let now : c.intern.new.self ≡ with_names c.args.book.now (take (c.loop-name.name-index + 1) c.args.names.now) =
    book_more _ c.loop-name.book _ _ c.name-item.result _ _ c.loop-name-test.true c.loop-name.invariant.names c.name-item.is c.in_ok-intern.ensures.ok in
    let same : length c.intern.new.self ≡ length (with_names c.args.book.now (take (c.loop-name.name-index + 1) c.args.names.now)) = ap length now in
    names_too_many c.args.book.now c.args.names.now (c.loop-name.name-index + 1) c.args.most (omega arith)

pub loop-name-preserved : goal.loop-name-preserved
loop-name-preserved c = record {
  names = book_more _ c.loop-name.book _ _ c.name-item.result _ _ c.loop-name-test.true c.loop-name.invariant.names c.name-item.is c.in_ok-intern.ensures.ok;
  within = omega arith;
}
