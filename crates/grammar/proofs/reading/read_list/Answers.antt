use Rattle.std.proofs.Common.{◌+◌, ◌∙◌, length, sym}
use Rattle.std.proofs.lemmas.Result.{err_from_is_err_and}
use Rattle.grammar.proofs.Loops.{list_fails, onto-none}
use Rattle.grammar.proofs.reading.read_list.Goals as goal

pub returns-in_err-item : goal.returns-in_err-item
returns-in_err-item g c =
    let p = err_from_is_err_and c.from_residual-in_err-item.result c.from_residual-in_err-item.ensures.1 in
    rw (p.1, p.2) (list_fails c.in_err-item.field-0.0 g.L.ListTail.another_at c.loop-i.items (length c.args.text.now + 1) c.loop-i.i c.loop-i.rest.now _ c.loop-i-test.true c.in_err-item.ensures c.loop-i.invariant)

pub returns-in-None : goal.returns-in-None
returns-in-None g c = sym c.loop-i.invariant ∙ onto-none g.L.ListTail.another_at c.loop-i.items (length c.args.text.now + 1) c.loop-i.i c.loop-i.rest.now c.in_ok-item.after.now c.loop-i-test.true (rw c.in-None.is at c.in_ok-item.ensures)
