use Rattle.std.proofs.Common.{◌≡◌, ◌∙◌, inr, ap, Some}
use Rattle.host_io.specs.Disk.{Area, settled}
use Rattle.gated_log.specs.Entries.{within}
use Rattle.gated_log.proofs.Opened.{opened, opening, unsynced}
use Rattle.gated_log.proofs.Present.{present}
use Rattle.gated_log.proofs.Since.{is_fault}
use Rattle.gated_log.proofs.reader.Reader.load.Goals as goal

pub returns-in_err-open_settled-clause-moments : goal.returns-in_err-open_settled-clause-moments
returns-in_err-open_settled-clause-moments g c = λ d told.
    let h = g.H.Host in
    let to = c.in_ok-sync.ensures.disk.told d told in
    let told_mid : h.disk c.sync.new.self ≡ Some (settled d) = to.1 ∙ ap Some to.2.ok in
    opened h.disk h.printed h.clock h.might (within c.args.limit) c.args.host.now c.sync.new.self c.open_settled.new.host d told told_mid c.in_ok-sync.ensures.printed
    (g.met.H.Host.only_now c.args.host.now) (g.met.H.Host.reads_now c.args.host.now d told) c.in_ok-sync.ensures.time (c.open_settled.ensures.moments (within c.args.limit) (settled d) told_mid)

pub returns-clause-moments : goal.returns-clause-moments
returns-clause-moments g c = λ d told.
    let h = g.H.Host in
    let to = c.in_ok-sync.ensures.disk.told d told in
    let told_mid : h.disk c.sync.new.self ≡ Some (settled d) = to.1 ∙ ap Some to.2.ok in
    opened h.disk h.printed h.clock h.might (within c.args.limit) c.args.host.now c.sync.new.self c.open_settled.new.host d told told_mid c.in_ok-sync.ensures.printed
    (g.met.H.Host.only_now c.args.host.now) (g.met.H.Host.reads_now c.args.host.now d told) c.in_ok-sync.ensures.time (c.open_settled.ensures.moments (within c.args.limit) (settled d) told_mid)

pub returns-clause-ok : goal.returns-clause-ok
returns-clause-ok g c = λ d told.
    let to = c.in_ok-sync.ensures.disk.told d told in
    let told_mid : g.H.Host.disk c.sync.new.self ≡ Some (settled d) = to.1 ∙ ap Some to.2.ok in
    let now = c.in_ok-open_settled.ensures.ok (within c.args.limit) (settled d) told_mid in
    (now.0, now.1, now.2, ap (λ (a : Area). a.reads) now.3, now.4)

pub returns-clause-unwritten : goal.returns-clause-unwritten
returns-clause-unwritten g c = λ d told not_fresh.
    let to = c.in_ok-sync.ensures.disk.told d told in
    let told_mid : g.H.Host.disk c.sync.new.self ≡ Some (settled d) = to.1 ∙ ap Some to.2.ok in
    inr (c.in_ok-open_settled.ensures.unwritten (settled d) told_mid not_fresh ∙ told_mid)

pub returns-in_err-sync-clause-opening : goal.returns-in_err-sync-clause-opening
returns-in_err-sync-clause-opening g c = λ d told.
    let h = g.H.Host in
    let to = c.in_err-sync.ensures.disk.told d told in
    unsynced h.disk h.printed h.clock h.might (within c.args.limit) c.from_residual.result c.args.host.now c.sync.new.self d (is_fault c.from_residual.result _ c.from_residual.ensures.1) told (to.1 ∙ ap Some to.2.err)
    c.in_err-sync.ensures.printed (g.met.H.Host.only_now c.args.host.now) c.in_err-sync.ensures.time

pub returns-in_err-open_settled-clause-opening : goal.returns-in_err-open_settled-clause-opening
returns-in_err-open_settled-clause-opening g c = λ d told.
    let h = g.H.Host in
    let to = c.in_ok-sync.ensures.disk.told d told in
    let told_mid : h.disk c.sync.new.self ≡ Some (settled d) = to.1 ∙ ap Some to.2.ok in
    opening h.disk h.printed h.clock h.might (within c.args.limit) c.from_residual-in_err-open_settled.result c.args.host.now c.sync.new.self c.open_settled.new.host d told told_mid c.in_ok-sync.ensures.printed
    (g.met.H.Host.only_now c.args.host.now) c.in_ok-sync.ensures.time (c.open_settled.ensures.moments (within c.args.limit) (settled d) told_mid)

pub returns-in_err-open_settled-clause-reads : goal.returns-in_err-open_settled-clause-reads
returns-in_err-open_settled-clause-reads g c = λ d told.
    let h = g.H.Host in
    let to = c.in_ok-sync.ensures.disk.told d told in
    let told_mid : h.disk c.sync.new.self ≡ Some (settled d) = to.1 ∙ ap Some to.2.ok in
    let at = c.open_settled.ensures.told (settled d) told_mid in
    let now = present h.disk h.printed h.clock h.might c.sync.new.self c.open_settled.new.host _ at.0 (c.open_settled.ensures.moments (within c.args.limit) (settled d) told_mid) at.1 g.met.H.Host.counts_now g.met.H.Host.reads_now in
    (at.0, at.1, now.second, now.first)

pub returns-clause-opening : goal.returns-clause-opening
returns-clause-opening g c = λ d told.
    let h = g.H.Host in
    let to = c.in_ok-sync.ensures.disk.told d told in
    let told_mid : h.disk c.sync.new.self ≡ Some (settled d) = to.1 ∙ ap Some to.2.ok in
    opening h.disk h.printed h.clock h.might (within c.args.limit) _ c.args.host.now c.sync.new.self c.open_settled.new.host d told told_mid c.in_ok-sync.ensures.printed
    (g.met.H.Host.only_now c.args.host.now) c.in_ok-sync.ensures.time (c.open_settled.ensures.moments (within c.args.limit) (settled d) told_mid)

pub returns-clause-reads : goal.returns-clause-reads
returns-clause-reads g c = λ d told.
    let h = g.H.Host in
    let to = c.in_ok-sync.ensures.disk.told d told in
    let told_mid : h.disk c.sync.new.self ≡ Some (settled d) = to.1 ∙ ap Some to.2.ok in
    let at = c.open_settled.ensures.told (settled d) told_mid in
    let now = present h.disk h.printed h.clock h.might c.sync.new.self c.open_settled.new.host _ at.0 (c.open_settled.ensures.moments (within c.args.limit) (settled d) told_mid) at.1 g.met.H.Host.counts_now g.met.H.Host.reads_now in
    (at.0, at.1, now.second, now.first)
