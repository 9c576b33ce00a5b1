use Rattle.std.proofs.Common.{refl}
use Rattle.query_shape.proofs.NumberingLemmas.{numbered_known, numbered_new}
use Rattle.query_shape.proofs.numbering.number.Goals as goal

pub returns-in-Some : goal.returns-in-Some
returns-in-Some c = numbered_known c.args.terms.now c.args.terms.now c.args.term.now c.in-Some.number refl (rw c.items.ensures at (c.in-Some.ensures))

pub returns : goal.returns
returns c = rw (c.items-2.ensures, c.in_ok-push.ensures.ok, c.in_ok-copy.ensures) (numbered_new c.args.terms.now _ c.args.term.now refl (rw c.items.ensures at c.in_default.ensures))
