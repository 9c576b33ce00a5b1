use Rattle.std.proofs.lemmas.Bool.{OnFalse_at, OnTrue_at}
use Rattle.join_ops.proofs.CheckLemmas.{checks_done, no_checks, one_checked, one_given}
use Rattle.join_ops.proofs.level.checks.Goals as goal
use Rattle.join_ops.proofs.level.checks.Goals.{then-is_checked+in_ok-push, else-is_checked}

pub loop-place-init : goal.loop-place-init
loop-place-init c = rw c.new-checks.ensures.items (no_checks c.args.conditions.now c.args.source c.args.level)

pub loop-place-preserved : goal.loop-place-preserved
loop-place-preserved c = elim c.if-is_checked.branch [
  | then-is_checked+in_ok-push w ↦ rw (w.checks-is, w.in_ok-push.ensures.items) (one_checked c.args.conditions.now c.args.source c.args.level c.loop-place.place c.loop-place.checks.items _ c.loop-place-test.true c.loop-place.invariant (OnTrue_at w.if-is_checked.true c.is_checked.ensures.under))
  | else-is_checked w ↦ rw w.checks-is (one_given c.args.conditions.now c.args.source c.args.level c.loop-place.place c.loop-place.checks.items _ c.loop-place-test.true c.loop-place.invariant (OnFalse_at w.if-is_checked.false c.is_checked.ensures.given))
]

pub returns : goal.returns
returns c = checks_done c.args.conditions.now c.args.source c.args.level c.loop-place.place c.loop-place.checks.items c.loop-place-test.false c.loop-place.invariant
