use Rattle.std.proofs.Common.{◌≡◌, inl, subst, sym, Some}
use Rattle.host_io.specs.Disk.{Disk, IsSettled}
use Rattle.host_io.proofs.Moments.{started}
use Rattle.gated_log.specs.Entries.{Entry, within}
use Rattle.gated_log.specs.State.{Appended, BeforeOrAfter, IsClosedAt, LogState}
use Rattle.gated_log.proofs.Runs.{at_start}
use Rattle.gated_log.proofs.log.Log.append.Goals as goal

pub add_entry-requires-clause-ready : goal.add_entry-requires-clause-ready
add_entry-requires-clause-ready g c = λ d told.
    subst (λ (l : LogState). IsSettled d × IsClosedAt (within l.limit) l.end d.first.reads) (sym c.self.view_is) (c.requires.ready d told)

pub returns-in_default-clause-moments : goal.returns-in_default-clause-moments
returns-in_default-clause-moments g c = λ d told.
    let h = g.H.Host in
    let at = c.requires.ready d told in
    started h.clock h.might c.args.host.now _
    (λ l left. at_start d at.0 (h.disk c.args.host.now) (h.printed c.args.host.now) (BeforeOrAfter (within c.args.self.limit) c.args.self.end (record { kind = c.args.kind; payload = c.args.payload.now }) d.first.reads) told (λ es s place. inl s) l (g.met.H.Host.only_now c.args.host.now l left))

pub returns-in_ok-add_entry-in-Some-clause-ok : goal.returns-in_ok-add_entry-in-Some-clause-ok
returns-in_ok-add_entry-in-Some-clause-ok g c = λ d told.
    let e : Entry = record { kind = c.args.kind; payload = c.args.payload.now } in
    subst (λ (l : LogState). (x : Disk) × (g.H.Host.disk c.add_entry.new.host ≡ Some x) × IsSettled x × (x.second ≡ d.second) × Appended (within l.limit) l.end e d.first.reads x.first.reads)
    c.self.view_is (c.in_ok-add_entry-in-Some.ensures.ok d told)
