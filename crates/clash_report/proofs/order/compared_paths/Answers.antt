use Rattle.std.proofs.Common.{sym, ◌∙◌, arith}
use Rattle.dl_base.specs.Clashes.{role_cmp}
use Rattle.clash_report.proofs.OrderLemmas.{both_ended}
use Rattle.clash_report.proofs.order.compared_paths.Goals as goal

pub returns : goal.returns
returns c =
    let least = c.min-both.ensures in
    let past = c.loop-i-test.false in
    let inside = c.loop-i.auto.i-end in
    c.cmp.ensures ∙ sym (c.loop-i.invariant ∙ both_ended (role_cmp c.args.o.now) c.loop-i.i c.args.c.now c.args.d.now (omega arith) (omega arith) (λ a b. absurd (omega arith)))
