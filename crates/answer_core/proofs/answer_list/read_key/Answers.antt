use Rattle.std.proofs.Common.{◌<◌, ◌≢◌, length, get_or, arith, below_more, get_or-set_other, get_or-set_same}
use Rattle.answer_core.proofs.ReadLemmas.{stands_here, reads_all, reads_not}
use Rattle.answer_core.proofs.answer_list.read_key.Goals as goal

pub returns-in_default-clause-none : goal.returns-in_default-clause-none
returns-in_default-clause-none c = reads_not c.args.images.now c.args.count c.args.places.now c.loop-i.i _ c.loop-i-test.true c.in_default.ensures

pub loop-i-preserved : goal.loop-i-preserved
loop-i-preserved c =
    below_more _ _
    (λ k h. let ne : k ≢ c.loop-i.i = omega arith in rw get_or-set_other (c.loop-i.invariant k h))
    (let lt : c.loop-i.i < length c.loop-i.key = omega (arith, c.loop-i.auto.key, c.requires.room, c.loop-i-test.true) in
    rw get_or-set_same (stands_here c.args.images.now c.args.count (get_or c.args.places.now c.loop-i.i 0) c.in-Some.number _ (c.requires.places c.loop-i.i 0 c.loop-i-test.true) c.in-Some.ensures))

pub returns-clause-read : goal.returns-clause-read
returns-clause-read c =
    reads_all c.args.images.now c.args.count c.args.places.now c.loop-i.key c.loop-i.i (omega (arith, c.loop-i.auto.key, c.requires.room)) (omega (arith, c.loop-i-test.false)) c.loop-i.invariant
