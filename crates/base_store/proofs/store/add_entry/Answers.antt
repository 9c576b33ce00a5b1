use Rattle.std.proofs.Common.{ℕ, sym, subst}
use Rattle.gated_log.specs.Entries.{Entry, within}
use Rattle.gated_log.specs.State.{Appended, BeforeOrAfter, IsClosedAt}
use Rattle.gated_log.proofs.Joined.{weaker_first}
use Rattle.base_store.specs.Store.{HoldsEitherMore}
use Rattle.base_store.proofs.Adding.{holds_either_more, holds_more, ready}
use Rattle.base_store.proofs.store.add_entry.Goals as goal

pub append-requires-clause-ready : goal.append-requires-clause-ready
append-requires-clause-ready g c = λ d told.
    let r = c.requires.ready d told in
    (r.1.is_settled, subst (λ (n : ℕ). IsClosedAt (within n) c.args.log.end d.first.reads) (sym c.requires.limit) (ready c.args.log.end d.first.reads r.0 r.1.held r.1.place))

pub returns-in-Ok-clause-ok : goal.returns-in-Ok-clause-ok
returns-in-Ok-clause-ok g c = λ d told.
    let r = c.requires.ready d told in
    let e : Entry = record { kind = c.args.kind; payload = c.args.payload.now } in
    let o = c.in-Ok.ensures.ok d told in
    (o.0, o.1, o.2, o.3, holds_more c.args.log.end d.first.reads r.0 r.1.held r.1.place e o.0.first.reads (subst (λ (n : ℕ). Appended (within n) c.args.log.end e d.first.reads o.0.first.reads) c.requires.limit o.4))

pub returns-in-Ok-clause-moments : goal.returns-in-Ok-clause-moments
returns-in-Ok-clause-moments g c = λ d told.
    let r = c.requires.ready d told in
    let h = g.H.Host in
    let e : Entry = record { kind = c.args.kind; payload = c.args.payload.now } in
    weaker_first h.printed h.clock h.might c.args.host.now c.append.new.host d (BeforeOrAfter (within c.args.log.limit) c.args.log.end e d.first.reads) (HoldsEitherMore e d.first.reads) (c.in-Ok.ensures.moments d told)
    (λ area m. holds_either_more c.args.log.end d.first.reads r.0 r.1.held r.1.place e area (subst (λ (n : ℕ). BeforeOrAfter (within n) c.args.log.end e d.first.reads area) c.requires.limit m))

pub returns-in-Ok-clause-reads : goal.returns-in-Ok-clause-reads
returns-in-Ok-clause-reads g c = λ d told.
    let r = c.requires.ready d told in
    let e : Entry = record { kind = c.args.kind; payload = c.args.payload.now } in
    let o = c.in-Ok.ensures.reads d told in
    (o.0, o.1, o.2, holds_either_more c.args.log.end d.first.reads r.0 r.1.held r.1.place e o.0.first.reads (subst (λ (n : ℕ). BeforeOrAfter (within n) c.args.log.end e d.first.reads o.0.first.reads) c.requires.limit o.3))

pub returns-in-Err-DiskFault-clause-moments : goal.returns-in-Err-DiskFault-clause-moments
returns-in-Err-DiskFault-clause-moments g c = λ d told.
    let r = c.requires.ready d told in
    let h = g.H.Host in
    let e : Entry = record { kind = c.args.kind; payload = c.args.payload.now } in
    weaker_first h.printed h.clock h.might c.args.host.now c.append.new.host d (BeforeOrAfter (within c.args.log.limit) c.args.log.end e d.first.reads) (HoldsEitherMore e d.first.reads) (c.append.ensures.moments d told)
    (λ area m. holds_either_more c.args.log.end d.first.reads r.0 r.1.held r.1.place e area (subst (λ (n : ℕ). BeforeOrAfter (within n) c.args.log.end e d.first.reads area) c.requires.limit m))

pub returns-in-Err-DiskFault-clause-reads : goal.returns-in-Err-DiskFault-clause-reads
returns-in-Err-DiskFault-clause-reads g c = λ d told.
    let r = c.requires.ready d told in
    let e : Entry = record { kind = c.args.kind; payload = c.args.payload.now } in
    let o = c.append.ensures.reads d told in
    (o.0, o.1, o.2, holds_either_more c.args.log.end d.first.reads r.0 r.1.held r.1.place e o.0.first.reads (subst (λ (n : ℕ). BeforeOrAfter (within n) c.args.log.end e d.first.reads o.0.first.reads) c.requires.limit o.3))
