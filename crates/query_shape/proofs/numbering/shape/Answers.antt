use Rattle.std.proofs.Common.{◌≡◌, ◌≤◌, List, length, subst, ap, arith}
use Rattle.std.proofs.lemmas.Result.{err_from_is_err_and}
use Rattle.dl_base.specs.Query.{Question}
use Rattle.dl_base.specs.declared.query.Atom.{Atom}
use Rattle.query_shape.specs.Shape.{IsShapeOf}
use Rattle.query_shape.specs.ShapeFault.{IsShapeFault}
use Rattle.query_shape.proofs.NumberingLemmas.{IsShapeUpTo, shape_none, shape_more, shape_all, few_terms, layout_of, first_fault}
use Rattle.query_shape.proofs.numbering.shape.Goals as goal

pub loop-atom-init : goal.loop-atom-init
loop-atom-init c = rw (c.new-terms.ensures, c.new-atoms.ensures) (shape_none c.args.o.now c.atoms-atom-items.result.now)

pub numbered_atom-requires : goal.numbered_atom-requires
numbered_atom-requires c =
    let few = few_terms c.args.o.now c.atoms-atom-items.result.now c.loop-atom.atom-index c.loop-atom.terms c.loop-atom.atoms c.loop-atom.invariant in
    let same : length c.atoms-atom-items.result.now ≡ length c.args.q.now.atoms = ap length c.atoms-atom-items.ensures.atoms in
    omega (arith, few, c.atoms-atom-items.ensures.query.atoms)

pub loop-atom-preserved : goal.loop-atom-preserved
loop-atom-preserved c =
    rw c.in_ok-push.ensures.ok (shape_more c.args.o.now c.atoms-atom-items.result.now c.loop-atom.atom-index c.atom-item.result c.loop-atom.terms _ c.loop-atom.atoms
    c.in_ok-numbered.numbered c.loop-atom-test.true c.atom-item.is c.loop-atom.invariant c.in_ok-numbered.ensures.ok)

pub returns-in_err-numbered-clause-err : goal.returns-in_err-numbered-clause-err
returns-in_err-numbered-clause-err c =
    let same : record { answers = c.args.q.now.answers; atoms = c.atoms-atom-items.result.now } ≡ c.args.q.now = λ i. record { answers = c.args.q.now.answers; atoms = c.atoms-atom-items.ensures.atoms i } in
    let p = err_from_is_err_and c.from_residual.result c.from_residual.ensures.1 in
    rw (p.1, p.2)
    (subst (λ (q : Question). IsShapeFault c.args.o.now q c.in_err-numbered.field-0.0) same (first_fault c.args.o.now (record { answers = c.args.q.now.answers; atoms = c.atoms-atom-items.result.now })
    c.loop-atom.atom-index c.atom-item.result c.loop-atom.terms c.loop-atom.atoms _ c.loop-atom-test.true c.atom-item.is c.loop-atom.invariant c.in_err-numbered.ensures.err))

-- the whole query is gone through
whole : (c : goal.After-loop-atom) → IsShapeOf c.args.o.now c.args.q.now (record { terms = c.loop-atom.terms; atoms = c.loop-atom.atoms })
whole c =
    let is = c.atoms-atom-items.ensures.atoms in
    let up_to : IsShapeUpTo c.args.o.now c.args.q.now.atoms c.loop-atom.atom-index c.loop-atom.terms c.loop-atom.atoms =
    subst (λ (atoms : List Atom). IsShapeUpTo c.args.o.now atoms c.loop-atom.atom-index c.loop-atom.terms c.loop-atom.atoms) is c.loop-atom.invariant in
    let past : length c.args.q.now.atoms ≤ c.loop-atom.atom-index = subst (λ (atoms : List Atom). length atoms ≤ c.loop-atom.atom-index) is c.loop-atom-test.false in
    shape_all c.args.o.now c.args.q.now c.loop-atom.atom-index c.loop-atom.terms c.loop-atom.atoms past up_to

pub invariant_of-result : goal.invariant_of-result
unfolding whole
invariant_of-result c = layout_of c.args.o.now c.args.q.now _ c.atoms-atom-items.ensures.query (whole c)

pub returns-clause-ok : goal.returns-clause-ok
returns-clause-ok c = whole c
