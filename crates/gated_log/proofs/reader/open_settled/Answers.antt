use Rattle.std.proofs.Common.{◌∙◌, inl, inr, refl}
use Rattle.gated_log.specs.Entries.{IsFresh}
use Rattle.gated_log.proofs.Fresh.{opens_fresh, opens_whole}
use Rattle.gated_log.proofs.Gates.{copied}
use Rattle.gated_log.proofs.Joined.{joined_first, weaker_first}
use Rattle.gated_log.proofs.reader.open_settled.Goals as goal

pub returns-in_err-count-clause-moments : goal.returns-in_err-count-clause-moments
returns-in_err-count-clause-moments g c = λ b d told.
    let h = g.H.Host in
    weaker_first h.printed h.clock h.might c.args.host.now c.read_first.new.host d _ _ (c.read_first.ensures.moments d told) (λ l is. inl is)

pub returns-in_err-initialise_short-in-Short-clause-moments : goal.returns-in_err-initialise_short-in-Short-clause-moments
returns-in_err-initialise_short-in-Short-clause-moments g c = λ b d told.
    let h = g.H.Host in
    let fresh : IsFresh d.first.reads = inl (c.in-Short.ensures d.first.reads (copied d.first.reads 0 c.in_ok-count.count 17 c.read_first.new.buf (c.in_ok-count.ensures.value d told) c.read_first.auto.buf)) in
    joined_first h.printed h.clock h.might c.args.host.now c.read_first.new.host c.initialise_short.new.host d d _ _ _ (c.in_ok-count.ensures.moments d told) (c.initialise_short.ensures.moments b d (c.in_ok-count.ensures.disk ∙ told))
    c.in_ok-count.ensures.printed refl (λ l is. inl is) (λ l holds. inr (fresh, holds))

pub returns-in_err-initialise_shut-in-Shut-clause-moments : goal.returns-in_err-initialise_shut-in-Shut-clause-moments
returns-in_err-initialise_shut-in-Shut-clause-moments g c = λ b d told.
    let h = g.H.Host in
    let fresh : IsFresh d.first.reads = inr (c.in-Shut.ensures d.first.reads (copied d.first.reads 0 c.in_ok-count.count 17 c.read_first.new.buf (c.in_ok-count.ensures.value d told) c.read_first.auto.buf)).1 in
    joined_first h.printed h.clock h.might c.args.host.now c.read_first.new.host c.initialise_shut.new.host d d _ _ _ (c.in_ok-count.ensures.moments d told) (c.initialise_shut.ensures.moments b d (c.in_ok-count.ensures.disk ∙ told))
    c.in_ok-count.ensures.printed refl (λ l is. inl is) (λ l holds. inr (fresh, holds))

pub returns-in_ok-initialise_short-in-Short-clause-moments : goal.returns-in_ok-initialise_short-in-Short-clause-moments
returns-in_ok-initialise_short-in-Short-clause-moments g c = λ b d told.
    let h = g.H.Host in
    let fresh : IsFresh d.first.reads = inl (c.in-Short.ensures d.first.reads (copied d.first.reads 0 c.in_ok-count.count 17 c.read_first.new.buf (c.in_ok-count.ensures.value d told) c.read_first.auto.buf)) in
    joined_first h.printed h.clock h.might c.args.host.now c.read_first.new.host c.initialise_short.new.host d d _ _ _ (c.in_ok-count.ensures.moments d told) (c.initialise_short.ensures.moments b d (c.in_ok-count.ensures.disk ∙ told))
    c.in_ok-count.ensures.printed refl (λ l is. inl is) (λ l holds. inr (fresh, holds))

pub returns-in_ok-initialise_shut-in-Shut-clause-moments : goal.returns-in_ok-initialise_shut-in-Shut-clause-moments
returns-in_ok-initialise_shut-in-Shut-clause-moments g c = λ b d told.
    let h = g.H.Host in
    let fresh : IsFresh d.first.reads = inr (c.in-Shut.ensures d.first.reads (copied d.first.reads 0 c.in_ok-count.count 17 c.read_first.new.buf (c.in_ok-count.ensures.value d told) c.read_first.auto.buf)).1 in
    joined_first h.printed h.clock h.might c.args.host.now c.read_first.new.host c.initialise_shut.new.host d d _ _ _ (c.in_ok-count.ensures.moments d told) (c.initialise_shut.ensures.moments b d (c.in_ok-count.ensures.disk ∙ told))
    c.in_ok-count.ensures.printed refl (λ l is. inl is) (λ l holds. inr (fresh, holds))

pub returns-in_ok-initialise_short-in-Short-clause-ok : goal.returns-in_ok-initialise_short-in-Short-clause-ok
returns-in_ok-initialise_short-in-Short-clause-ok g c = λ b d told.
    let is = c.requires.settled d told in
    let fresh : IsFresh d.first.reads = inl (c.in-Short.ensures d.first.reads (copied d.first.reads 0 c.in_ok-count.count 17 c.read_first.new.buf (c.in_ok-count.ensures.value d told) c.read_first.auto.buf)) in
    (_, c.in_ok-initialise_short-in-Short.ensures.ok d (c.in_ok-count.ensures.disk ∙ told), record { first = refl; second = is.second }, refl, opens_fresh b d.first.reads fresh)

pub returns-in_ok-initialise_shut-in-Shut-clause-ok : goal.returns-in_ok-initialise_shut-in-Shut-clause-ok
returns-in_ok-initialise_shut-in-Shut-clause-ok g c = λ b d told.
    let is = c.requires.settled d told in
    let fresh : IsFresh d.first.reads = inr (c.in-Shut.ensures d.first.reads (copied d.first.reads 0 c.in_ok-count.count 17 c.read_first.new.buf (c.in_ok-count.ensures.value d told) c.read_first.auto.buf)).1 in
    (_, c.in_ok-initialise_shut-in-Shut.ensures.ok d (c.in_ok-count.ensures.disk ∙ told), record { first = refl; second = is.second }, refl, opens_fresh b d.first.reads fresh)

pub returns-in-Whole-clause-ok : goal.returns-in-Whole-clause-ok
returns-in-Whole-clause-ok g c = λ b d told. (d, c.in_ok-count.ensures.disk ∙ told, c.requires.settled d told, refl, opens_whole b d.first.reads (c.in-Whole.ensures d.first.reads (copied d.first.reads 0 c.in_ok-count.count 17 c.read_first.new.buf (c.in_ok-count.ensures.value d told) c.read_first.auto.buf)))

pub returns-in-Whole-clause-moments : goal.returns-in-Whole-clause-moments
returns-in-Whole-clause-moments g c = λ b d told.
    let h = g.H.Host in
    weaker_first h.printed h.clock h.might c.args.host.now c.read_first.new.host d _ _ (c.in_ok-count.ensures.moments d told) (λ l is. inl is)

pub returns-in-Wrong-clause-moments : goal.returns-in-Wrong-clause-moments
returns-in-Wrong-clause-moments g c = λ b d told.
    let h = g.H.Host in
    weaker_first h.printed h.clock h.might c.args.host.now c.read_first.new.host d _ _ (c.in_ok-count.ensures.moments d told) (λ l is. inl is)

pub returns-in-Wrong-clause-damaged : goal.returns-in-Wrong-clause-damaged
returns-in-Wrong-clause-damaged g c = λ d told. (refl, c.in-Wrong.ensures d.first.reads (copied d.first.reads 0 c.in_ok-count.count 17 c.read_first.new.buf (c.in_ok-count.ensures.value d told) c.read_first.auto.buf))
