use Rattle.std.proofs.Common.{◌≤◌, length, arith}
use Rattle.horn_closure.proofs.RunLemmas.{nothing_advances, advances_both, longer_length, whole_visited}
use Rattle.horn_closure.proofs.run.saturate.Goals as goal

pub loop-head-init : goal.loop-head-init
loop-head-init c = record { inside = omega arith; run = c.requires.run; advances = nothing_advances _ _ _ }

pub loop-head-preserved : goal.loop-head-preserved
loop-head-preserved c = record {
  inside = (let more : length c.loop-head.queue ≤ length c.visit.new.queue = longer_length _ _ c.visit.ensures.advances.longer.0 c.visit.ensures.advances.longer.1 in omega arith);
  run = c.visit.ensures.run;
  advances = advances_both _ _ _ _ _ _ _ c.loop-head.invariant.advances c.visit.ensures.advances;
}

pub returns-clause-run : goal.returns-clause-run
returns-clause-run c = whole_visited _ _ _ _ c.loop-head.head (omega arith) c.loop-head.invariant.run
