use Rattle.std.proofs.Common.{◌∙◌, ◌+◌, inr, refl, ap, subst, arith, take, drop}
use Rattle.gated_log.specs.Entries.{within}
use Rattle.gated_log.specs.Front.{HasPayload}
use Rattle.gated_log.proofs.Gates.{copied, cut_off, ends, goes_on, offends, rest_at}
use Rattle.gated_log.proofs.reader.read_entry.Goals as goal

pub overflow_add-gate : goal.overflow_add-gate
overflow_add-gate g c = omega (arith, c.in-Open.ensures.bounds.fits, c.ranges.limit.fits)

pub returns-in-Closed-clause-ok : goal.returns-in-Closed-clause-ok
returns-in-Closed-clause-ok g c = λ d told entries rest begins place.
    let b = within c.args.limit in
    let front = copied d.first.reads c.args.gate c.in_ok-count.count 6 c.read_first.new.buf (c.in_ok-count.ensures.value d told) c.read_first.auto.buf ∙ ap (take 6) (rest_at b d.first.reads entries rest begins c.args.gate place) in
    let gate = c.in-Closed.ensures.is rest front in
    ends b d.first.reads entries rest begins c.args.gate place gate.0 gate.1 gate.2 gate.3

pub returns-in-Closed-clause-moments : goal.returns-in-Closed-clause-moments
returns-in-Closed-clause-moments g c = λ d told. c.in_ok-count.ensures.moments d told

pub returns-in-Broken-clause-damaged : goal.returns-in-Broken-clause-damaged
returns-in-Broken-clause-damaged g c = λ d told.
    let b = within c.args.limit in
    let begun = (c.requires.ready d told).1 in
    let front = copied d.first.reads c.args.gate c.in_ok-count.count 6 c.read_first.new.buf (c.in_ok-count.ensures.value d told) c.read_first.auto.buf ∙ ap (take 6) (rest_at b d.first.reads begun.0 begun.1 begun.2 c.args.gate begun.3) in
    (refl, offends b d.first.reads begun.0 begun.1 begun.2 c.args.gate begun.3 (c.in-Broken.ensures.is begun.1 front))

pub returns-in-Broken-clause-moments : goal.returns-in-Broken-clause-moments
returns-in-Broken-clause-moments g c = λ d told. c.in_ok-count.ensures.moments d told

pub returns-then-branch-clause-ok : goal.returns-then-branch-clause-ok
returns-then-branch-clause-ok g c = λ d told entries rest begins place.
    let b = within c.args.limit in
    let h = c.in-Open.head in
    let front = copied d.first.reads c.args.gate c.in_ok-count.count 6 c.read_first.new.buf (c.in_ok-count.ensures.value d told) c.read_first.auto.buf ∙ ap (take 6) (rest_at b d.first.reads entries rest begins c.args.gate place) in
    let payload = subst (HasPayload (drop (c.args.gate + 6) d.first.reads) h.len c.read_payload.new.buf) c.if-branch.true (c.in_ok-read_payload-in-Open.ensures.value d (c.in_ok-count.ensures.disk ∙ told)) in
    goes_on b d.first.reads entries rest begins c.args.gate place h (c.in-Open.ensures.is rest front) c.in-Open.ensures.bounds c.read_payload.new.buf payload.0 payload.1

pub returns-else-branch-clause-damaged : goal.returns-else-branch-clause-damaged
returns-else-branch-clause-damaged g c = λ d told.
    let b = within c.args.limit in
    let h = c.in-Open.head in
    let begun = (c.requires.ready d told).1 in
    let front = copied d.first.reads c.args.gate c.in_ok-count.count 6 c.read_first.new.buf (c.in_ok-count.ensures.value d told) c.read_first.auto.buf ∙ ap (take 6) (rest_at b d.first.reads begun.0 begun.1 begun.2 c.args.gate begun.3) in
    let payload = subst (HasPayload (drop (c.args.gate + 6) d.first.reads) h.len c.read_payload.new.buf) c.if-branch.false (c.in_ok-read_payload-in-Open.ensures.value d (c.in_ok-count.ensures.disk ∙ told)) in
    (refl, offends b d.first.reads begun.0 begun.1 begun.2 c.args.gate begun.3 (inr (cut_off b d.first.reads begun.0 begun.1 begun.2 c.args.gate begun.3 h (c.in-Open.ensures.is begun.1 front) c.in-Open.ensures.bounds payload)))
