use Rattle.std.proofs.Common.{◌+◌, ℕ, List, inl, refl, sym, ap, subst, arith}
use Rattle.host_io.proofs.Moments.{started}
use Rattle.gated_log.specs.Entries.{Entry}
use Rattle.gated_log.proofs.Joined.{weaker_first}
use Rattle.gated_log.proofs.Runs.{at_start}
use Rattle.txn_codec.specs.Changes.{changes_payload}
use Rattle.base_store.specs.History.{with_transaction}
use Rattle.base_store.specs.Store.{HoldsEither, HoldsEitherMore, StoreState}
use Rattle.base_store.proofs.Adding.{each_counts, each_leads, holds_either, stands_for_next}
use Rattle.base_store.proofs.store.Store.log_transaction.Goals as goal

pub returns-then-not-fits-clause-moments : goal.returns-then-not-fits-clause-moments
returns-then-not-fits-clause-moments g c = λ d told.
    let h = g.H.Host in
    let r = c.requires.ready d told in
    started h.clock h.might c.args.host.now _
    (λ l left. at_start d r.1.at_end.is_settled (h.disk c.args.host.now) (h.printed c.args.host.now) (HoldsEither (with_transaction c.args.changes.now) d.first.reads) told (λ k a. inl a) l (g.met.H.Host.only_now c.args.host.now l left))

pub returns-in_default-clause-moments : goal.returns-in_default-clause-moments
returns-in_default-clause-moments g c = λ d told.
    let h = g.H.Host in
    let r = c.requires.ready d told in
    started h.clock h.might c.args.host.now _
    (λ l left. at_start d r.1.at_end.is_settled (h.disk c.args.host.now) (h.printed c.args.host.now) (HoldsEither (with_transaction c.args.changes.now) d.first.reads) told (λ k a. inl a) l (g.met.H.Host.only_now c.args.host.now l left))

pub returns-in_err-log-clause-moments : goal.returns-in_err-log-clause-moments
returns-in_err-log-clause-moments g c = λ d told.
    let h = g.H.Host in
    let r = c.requires.ready d told in
    let e : Entry = record { kind = 2; payload = c.deref.result.now } in
    let means = subst (λ (p : List ℕ). changes_payload p c.args.changes.now) (sym c.deref.ensures.value) c.in-Ok.ensures.means in
    let leads = each_leads d.first.reads r.0 r.1.at_end.held c.args.changes.now r.2 c.deref.result.now means in
    weaker_first h.printed h.clock h.might c.args.host.now c.add_entry.new.host d (HoldsEitherMore e d.first.reads) (HoldsEither (with_transaction c.args.changes.now) d.first.reads) (c.add_entry.ensures.moments d told)
    (λ area m. holds_either d.first.reads e (with_transaction c.args.changes.now) leads area m)

pub returns-in_err-log-clause-reads : goal.returns-in_err-log-clause-reads
returns-in_err-log-clause-reads g c = λ d told.
    let r = c.requires.ready d told in
    let e : Entry = record { kind = 2; payload = c.deref.result.now } in
    let means = subst (λ (p : List ℕ). changes_payload p c.args.changes.now) (sym c.deref.ensures.value) c.in-Ok.ensures.means in
    let leads = each_leads d.first.reads r.0 r.1.at_end.held c.args.changes.now r.2 c.deref.result.now means in
    let o = c.add_entry.ensures.reads d told in
    (o.0, o.1, o.2, holds_either d.first.reads e (with_transaction c.args.changes.now) leads o.0.first.reads o.3)

pub returns-clause-ok : goal.returns-clause-ok
returns-clause-ok g c = λ d told.
    let r = c.requires.ready d told in
    let e : Entry = record { kind = 2; payload = c.deref.result.now } in
    let means = subst (λ (p : List ℕ). changes_payload p c.args.changes.now) (sym c.deref.ensures.value) c.in-Ok.ensures.means in
    let leads = each_leads d.first.reads r.0 r.1.at_end.held c.args.changes.now r.2 c.deref.result.now means in
    let counts = each_counts d.first.reads r.0 r.1.at_end.held c.args.changes.now r.2 in
    let o = c.in_ok-log.ensures.ok d told in
    let new : StoreState = record { used = c.in_ok-log.log.end; transactions = c.self.inside.transactions + 1 } in (
      o.0,
      o.1,
      o.2,
      o.3,
      stands_for_next d.first.reads e (with_transaction c.args.changes.now) leads 1 c.args.self new d o.0 refl counts
          (omega (arith, c.in_ok-log.ensures.log.0, ap (λ (s : StoreState). s.used) c.self.view_is))
          (omega (arith, ap (λ (s : StoreState). s.transactions) c.self.view_is))
          o.2 o.4,
    )

pub returns-clause-moments : goal.returns-clause-moments
returns-clause-moments g c = λ d told.
    let h = g.H.Host in
    let r = c.requires.ready d told in
    let e : Entry = record { kind = 2; payload = c.deref.result.now } in
    let means = subst (λ (p : List ℕ). changes_payload p c.args.changes.now) (sym c.deref.ensures.value) c.in-Ok.ensures.means in
    let leads = each_leads d.first.reads r.0 r.1.at_end.held c.args.changes.now r.2 c.deref.result.now means in
    weaker_first h.printed h.clock h.might c.args.host.now c.add_entry.new.host d (HoldsEitherMore e d.first.reads) (HoldsEither (with_transaction c.args.changes.now) d.first.reads) (c.add_entry.ensures.moments d told)
    (λ area m. holds_either d.first.reads e (with_transaction c.args.changes.now) leads area m)

pub returns-clause-reads : goal.returns-clause-reads
returns-clause-reads g c = λ d told.
    let r = c.requires.ready d told in
    let e : Entry = record { kind = 2; payload = c.deref.result.now } in
    let means = subst (λ (p : List ℕ). changes_payload p c.args.changes.now) (sym c.deref.ensures.value) c.in-Ok.ensures.means in
    let leads = each_leads d.first.reads r.0 r.1.at_end.held c.args.changes.now r.2 c.deref.result.now means in
    let o = c.add_entry.ensures.reads d told in
    (o.0, o.1, o.2, holds_either d.first.reads e (with_transaction c.args.changes.now) leads o.0.first.reads o.3)
