use Rattle.std.proofs.Common.{◌∙◌, arith, inl, inr, subst, sym}
use Rattle.std.specs.Prelude.{IsErrAnd}
use Rattle.std.specs.Option.{ForSome}
use Rattle.base_store.specs.Area.{IsDamaged}
use Rattle.base_store.specs.Loaded.{LoadFaultSays}
use Rattle.base_store.proofs.LoadedRows.{is_in_range}
use Rattle.gated_log.proofs.Since.{failed_so, is_fault}
use Rattle.gated_log.specs.Entries.{within}
use Rattle.gated_log.specs.Stops.{LeavesImages, WhileOpened}
use Rattle.base_store.proofs.OpenedAreas.{damage_says, err_same, has_numbers, loads_from, read_behind, read_moments}
use Rattle.base_store.proofs.Taking.{count_within}
use Rattle.base_store.proofs.store.Store.load.Goals as goal

pub returns-in_err-log-clause-damaged : goal.returns-in_err-log-clause-damaged
returns-in_err-log-clause-damaged g c =
    err_same c.from_residual-in_err-log.result c.in_err-log.field-0.0 (λ f. ForSome (g.H.Host.disk c.args.host.now) (λ d. LoadFaultSays (IsDamaged d.first.reads) f)) c.from_residual-in_err-log.ensures.1
    (λ d told.
    let o = c.in_ok-reader.ensures.ok d told in
    damage_says d.first.reads o.0.first.reads o.4 c.in_err-log.field-0.0 (c.in_err-log.ensures.damaged o.0 o.1))

pub returns-in_err-log-clause-moments : goal.returns-in_err-log-clause-moments
returns-in_err-log-clause-moments g c = λ d told.
    let h = g.H.Host in
    let o = c.in_ok-reader.ensures.ok d told in
    read_moments h.printed h.clock h.might c.args.host.now c.load.new.host c.read_all.new.host d o.0 o.4 o.3 (g.met.H.Host.reads_now c.args.host.now d told) c.in_ok-reader.ensures.printed
    (c.in_ok-reader.ensures.moments d told) (c.in_err-log.ensures.moments o.0 o.1)

pub over-store-requires-clause-count : goal.over-store-requires-clause-count
over-store-requires-clause-count g c =
    let all = c.in_ok-log.ensures.all in
    omega (arith, all.keeps.transactions, count_within all.history, all.place)

pub returns-in_err-loaded-clause-moments : goal.returns-in_err-loaded-clause-moments
returns-in_err-loaded-clause-moments g c = λ d told.
    let h = g.H.Host in
    let o = c.in_ok-reader.ensures.ok d told in
    read_moments h.printed h.clock h.might c.args.host.now c.load.new.host c.read_all.new.host d o.0 o.4 o.3 (g.met.H.Host.reads_now c.args.host.now d told) c.in_ok-reader.ensures.printed
    (c.in_ok-reader.ensures.moments d told) (c.in_ok-log.ensures.moments o.0 o.1)

pub returns-clause-in_range : goal.returns-clause-in_range
returns-clause-in_range g c =
    let all = c.in_ok-log.ensures.all in
    is_in_range c.in_ok-log.loading c.in_ok-loaded.loaded all.history c.in_ok-loaded.ensures all.keeps (omega (arith, all.within, all.place))

pub returns-clause-numbers : goal.returns-clause-numbers
returns-clause-numbers g c =
    has_numbers (g.H.Host.disk c.read_all.new.host) c.in_ok-log.log c.in_ok-log.loading c.in_ok-loaded.loaded c.over-store.result c.in_ok-log.ensures.all c.in_ok-loaded.ensures c.over-store.ensures

pub returns-clause-ok : goal.returns-clause-ok
returns-clause-ok g c = λ d told.
    let o = c.in_ok-reader.ensures.ok d told in
    let now = c.in_ok-log.ensures.disk ∙ o.1 in
    (o.0, now, o.3, loads_from (g.H.Host.disk c.read_all.new.host) c.in_ok-log.log c.in_ok-log.loading c.in_ok-loaded.loaded c.over-store.result c.in_ok-log.ensures.all c.in_ok-loaded.ensures c.over-store.ensures d o.0 now o.4)

pub returns-clause-moments : goal.returns-clause-moments
returns-clause-moments g c = λ d told.
    let h = g.H.Host in
    let o = c.in_ok-reader.ensures.ok d told in
    read_moments h.printed h.clock h.might c.args.host.now c.load.new.host c.read_all.new.host d o.0 o.4 o.3 (g.met.H.Host.reads_now c.args.host.now d told) c.in_ok-reader.ensures.printed
    (c.in_ok-reader.ensures.moments d told) (c.in_ok-log.ensures.moments o.0 o.1)

pub returns-clause-unwritten : goal.returns-clause-unwritten
returns-clause-unwritten g c = λ d told not_fresh.
    let now = c.in_ok-log.ensures.disk in
    elim (c.in_ok-reader.ensures.unwritten d told not_fresh) [ inl same ↦ inl (now ∙ same) | inr same ↦ inr (now ∙ same) ]

pub returns-in_err-reader-clause-opening : goal.returns-in_err-reader-clause-opening
returns-in_err-reader-clause-opening g c = λ d told.
    let h = g.H.Host in
    let printed = h.printed c.args.host.now in
    failed_so h.clock h.might (LeavesImages d printed) (WhileOpened (within 1073741824) d printed) c.load.result c.from_residual.result c.args.host.now c.load.new.host
    (subst (λ r. IsErrAnd r (λ e. Unit {0})) (sym c.in_err-reader.was) tt) (is_fault c.from_residual.result _ c.from_residual.ensures.1) (c.load.ensures.opening d told)

pub returns-in_err-log-clause-opening : goal.returns-in_err-log-clause-opening
returns-in_err-log-clause-opening g c = λ d told.
    let h = g.H.Host in
    let o = c.in_ok-reader.ensures.ok d told in
    read_behind h.printed h.clock h.might c.load.result c.in_ok-reader.reader c.from_residual-in_err-log.result c.args.host.now c.load.new.host c.read_all.new.host d o.0 c.in_ok-reader.was o.4 o.3 c.in_ok-reader.ensures.printed
    (c.load.ensures.opening d told) (c.in_err-log.ensures.moments o.0 o.1)

pub returns-in_err-loaded-clause-opening : goal.returns-in_err-loaded-clause-opening
returns-in_err-loaded-clause-opening g c = λ d told.
    let h = g.H.Host in
    let o = c.in_ok-reader.ensures.ok d told in
    read_behind h.printed h.clock h.might c.load.result c.in_ok-reader.reader c.from_residual-in_err-loaded.result c.args.host.now c.load.new.host c.read_all.new.host d o.0 c.in_ok-reader.was o.4 o.3 c.in_ok-reader.ensures.printed
    (c.load.ensures.opening d told) (c.in_ok-log.ensures.moments o.0 o.1)

pub returns-clause-opening : goal.returns-clause-opening
returns-clause-opening g c = λ d told.
    let h = g.H.Host in
    let o = c.in_ok-reader.ensures.ok d told in
    read_behind h.printed h.clock h.might c.load.result c.in_ok-reader.reader _ c.args.host.now c.load.new.host c.read_all.new.host d o.0 c.in_ok-reader.was o.4 o.3 c.in_ok-reader.ensures.printed
    (c.load.ensures.opening d told) (c.in_ok-log.ensures.moments o.0 o.1)
