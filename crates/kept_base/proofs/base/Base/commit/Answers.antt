use Rattle.std.proofs.Common.{List, sym, subst}
use Rattle.dl_base.specs.declared.row.NamedChange.{NamedChange}
use Rattle.base_store.specs.History.{with_transaction}
use Rattle.reply_text.specs.declared.reply.Reply.TheVariants as reply
use Rattle.base_engine.specs.Requests.{commit_of}
use Rattle.kept_base.specs.Committing.{MakesBase, MakesTransaction}
use Rattle.kept_base.proofs.CommitHosts.{commit_leads, commit_moments, commit_one, few_kept, kept_ok, may_keep, room_kept}
use Rattle.kept_base.proofs.KeptHosts.{other_second, other_told, ready_next, refused_one, refused_ready, refused_steps, steps_next, still_moments, still_second, still_told}
use Rattle.kept_base.proofs.base.Base.commit.Goals as goal

-- ---- want of memory

pub returns-in_err-base-clause-moments : goal.returns-in_err-base-clause-moments
returns-in_err-base-clause-moments g c = λ s stands d told keeps.
    let h = g.H.Host in
    still_moments h.clock h.might c.args.host.now (h.disk c.args.host.now) (h.printed c.args.host.now) (g.met.H.Host.only_now c.args.host.now) s (commit_of c.args.session) d told keeps

pub returns-in_err-base-clause-second : goal.returns-in_err-base-clause-second
returns-in_err-base-clause-second g c = still_second (g.H.Host.disk c.args.host.now)

pub returns-in_err-base-clause-told : goal.returns-in_err-base-clause-told
returns-in_err-base-clause-told g c = still_told (g.H.Host.disk c.args.host.now)

-- ---- a refusal

pub returns-in-Refused-clause-steps : goal.returns-in-Refused-clause-steps
returns-in-Refused-clause-steps g c =
    refused_steps c.args.self c.in-Refused.base (g.H.Host.disk c.args.host.now) (commit_of c.args.session) c.in-Refused.refusal
    (subst (MakesBase c.args.self c.args.session) c.in-Refused.is c.in_ok-base.ensures.made)

pub returns-in-Refused-clause-ready : goal.returns-in-Refused-clause-ready
returns-in-Refused-clause-ready g c =
    refused_ready c.args.self c.in-Refused.base (g.H.Host.disk c.args.host.now) (commit_of c.args.session) c.in-Refused.refusal
    (subst (MakesBase c.args.self c.args.session) c.in-Refused.is c.in_ok-base.ensures.made) c.requires.ready

pub returns-in-Refused-clause-one : goal.returns-in-Refused-clause-one
returns-in-Refused-clause-one g c =
    refused_one c.args.self c.in-Refused.base (g.H.Host.disk c.args.host.now) (commit_of c.args.session) c.in-Refused.refusal
    (subst (MakesBase c.args.self c.args.session) c.in-Refused.is c.in_ok-base.ensures.made)

pub returns-in-Refused-clause-moments : goal.returns-in-Refused-clause-moments
returns-in-Refused-clause-moments g c = λ s stands d told keeps.
    let h = g.H.Host in
    still_moments h.clock h.might c.args.host.now (h.disk c.args.host.now) (h.printed c.args.host.now) (g.met.H.Host.only_now c.args.host.now) s (commit_of c.args.session) d told keeps

pub returns-in-Refused-clause-second : goal.returns-in-Refused-clause-second
returns-in-Refused-clause-second g c = still_second (g.H.Host.disk c.args.host.now)

pub returns-in-Refused-clause-told : goal.returns-in-Refused-clause-told
returns-in-Refused-clause-told g c = still_told (g.H.Host.disk c.args.host.now)

-- ---- changes that are kept

pub keeping-requires-clause-few : goal.keeping-requires-clause-few
keeping-requires-clause-few g c =
    let old = c.args.self in
    let kept = c.items.result.now in
    let new = c.in-Ready.base in
    let made = subst (MakesBase old c.args.session) c.in-Ready.is c.in_ok-base.ensures.made in
    let makes = subst (λ (cs : List NamedChange). MakesTransaction old c.args.session cs c.in-Ready.added c.in-Ready.removed new) (sym c.items.ensures) made in
    few_kept old new c.args.session c.in-Ready.added c.in-Ready.removed kept c.tell.ensures.sound makes

pub keeping-requires-clause-room : goal.keeping-requires-clause-room
keeping-requires-clause-room g c =
    let old = c.args.self in
    let kept = c.items.result.now in
    let new = c.in-Ready.base in
    let made = subst (MakesBase old c.args.session) c.in-Ready.is c.in_ok-base.ensures.made in
    let makes = subst (λ (cs : List NamedChange). MakesTransaction old c.args.session cs c.in-Ready.added c.in-Ready.removed new) (sym c.items.ensures) made in
    room_kept old new c.args.session c.in-Ready.added c.in-Ready.removed kept c.tell.ensures.sound makes

pub keeping-requires-clause-ready : goal.keeping-requires-clause-ready
keeping-requires-clause-ready g c =
    let old = c.args.self in
    let kept = c.items.result.now in
    let new = c.in-Ready.base in
    let made = subst (MakesBase old c.args.session) c.in-Ready.is c.in_ok-base.ensures.made in
    let makes = subst (λ (cs : List NamedChange). MakesTransaction old c.args.session cs c.in-Ready.added c.in-Ready.removed new) (sym c.items.ensures) made in
    may_keep old new c.args.session c.in-Ready.added c.in-Ready.removed kept c.tell.ensures.sound makes (g.H.Host.disk c.args.host.now) c.requires.ready

pub returns-in_err-base-in-Ready-clause-moments : goal.returns-in_err-base-in-Ready-clause-moments
returns-in_err-base-in-Ready-clause-moments g c = λ s stands d told keeps.
    let h = g.H.Host in
    let old = c.args.self in
    let kept = c.items.result.now in
    let new = c.in-Ready.base in
    let made = subst (MakesBase old c.args.session) c.in-Ready.is c.in_ok-base.ensures.made in
    let makes = subst (λ (cs : List NamedChange). MakesTransaction old c.args.session cs c.in-Ready.added c.in-Ready.removed new) (sym c.items.ensures) made in
    commit_moments old new c.args.session c.in-Ready.added c.in-Ready.removed kept c.tell.ensures.sound makes h.clock h.might c.args.host.now c.keeping.new.host (h.printed c.args.host.now) s stands d keeps
    (c.in_err-base-in-Ready.ensures.moments d told)

pub returns-in_err-base-in-Ready-clause-second : goal.returns-in_err-base-in-Ready-clause-second
returns-in_err-base-in-Ready-clause-second g c = other_second (g.H.Host.disk c.args.host.now) (g.H.Host.disk c.keeping.new.host) c.in_err-base-in-Ready.ensures.reads

pub returns-in_err-base-in-Ready-clause-told : goal.returns-in_err-base-in-Ready-clause-told
returns-in_err-base-in-Ready-clause-told g c = other_told (g.H.Host.disk c.args.host.now) (g.H.Host.disk c.keeping.new.host) c.in_err-base-in-Ready.ensures.reads c.in_err-base-in-Ready.ensures.untold

pub returns-in_ok-base-in-Ready-clause-steps : goal.returns-in_ok-base-in-Ready-clause-steps
returns-in_ok-base-in-Ready-clause-steps g c =
    let h = g.H.Host in
    let old = c.args.self in
    let kept = c.items.result.now in
    let new = c.in-Ready.base in
    let made = subst (MakesBase old c.args.session) c.in-Ready.is c.in_ok-base.ensures.made in
    let makes = subst (λ (cs : List NamedChange). MakesTransaction old c.args.session cs c.in-Ready.added c.in-Ready.removed new) (sym c.items.ensures) made in
    let done = c.in_ok-base-in-Ready in
    steps_next old (with_transaction kept) (h.disk c.args.host.now) (h.disk c.keeping.new.host) done.base.store done.ensures.untold
    (kept_ok old new c.args.session c.in-Ready.added c.in-Ready.removed kept c.tell.ensures.sound makes (h.disk c.args.host.now) (h.disk c.keeping.new.host) done.base.store done.ensures.ok)
    (commit_of c.args.session) (reply.Committed c.transactions.result c.in-Ready.added c.in-Ready.removed) done.base
    (commit_leads old new c.args.session c.in-Ready.added c.in-Ready.removed kept c.tell.ensures.sound makes done.base done.ensures.base c.transactions.result c.transactions.ensures)

pub returns-in_ok-base-in-Ready-clause-ready : goal.returns-in_ok-base-in-Ready-clause-ready
returns-in_ok-base-in-Ready-clause-ready g c =
    let h = g.H.Host in
    let old = c.args.self in
    let kept = c.items.result.now in
    let new = c.in-Ready.base in
    let made = subst (MakesBase old c.args.session) c.in-Ready.is c.in_ok-base.ensures.made in
    let makes = subst (λ (cs : List NamedChange). MakesTransaction old c.args.session cs c.in-Ready.added c.in-Ready.removed new) (sym c.items.ensures) made in
    let done = c.in_ok-base-in-Ready in
    ready_next old (with_transaction kept) (h.disk c.args.host.now) (h.disk c.keeping.new.host) done.base.store done.ensures.untold
    (kept_ok old new c.args.session c.in-Ready.added c.in-Ready.removed kept c.tell.ensures.sound makes (h.disk c.args.host.now) (h.disk c.keeping.new.host) done.base.store done.ensures.ok)
    (commit_of c.args.session) (reply.Committed c.transactions.result c.in-Ready.added c.in-Ready.removed) done.base
    (commit_leads old new c.args.session c.in-Ready.added c.in-Ready.removed kept c.tell.ensures.sound makes done.base done.ensures.base c.transactions.result c.transactions.ensures) c.requires.ready

pub returns-in_ok-base-in-Ready-clause-one : goal.returns-in_ok-base-in-Ready-clause-one
returns-in_ok-base-in-Ready-clause-one g c =
    let old = c.args.self in
    let kept = c.items.result.now in
    let new = c.in-Ready.base in
    let made = subst (MakesBase old c.args.session) c.in-Ready.is c.in_ok-base.ensures.made in
    let makes = subst (λ (cs : List NamedChange). MakesTransaction old c.args.session cs c.in-Ready.added c.in-Ready.removed new) (sym c.items.ensures) made in
    commit_one old new c.args.session c.in-Ready.added c.in-Ready.removed kept c.tell.ensures.sound makes c.in_ok-base-in-Ready.base c.in_ok-base-in-Ready.ensures.base

pub returns-in_ok-base-in-Ready-clause-moments : goal.returns-in_ok-base-in-Ready-clause-moments
returns-in_ok-base-in-Ready-clause-moments g c = λ s stands d told keeps.
    let h = g.H.Host in
    let old = c.args.self in
    let kept = c.items.result.now in
    let new = c.in-Ready.base in
    let made = subst (MakesBase old c.args.session) c.in-Ready.is c.in_ok-base.ensures.made in
    let makes = subst (λ (cs : List NamedChange). MakesTransaction old c.args.session cs c.in-Ready.added c.in-Ready.removed new) (sym c.items.ensures) made in
    commit_moments old new c.args.session c.in-Ready.added c.in-Ready.removed kept c.tell.ensures.sound makes h.clock h.might c.args.host.now c.keeping.new.host (h.printed c.args.host.now) s stands d keeps
    (c.in_ok-base-in-Ready.ensures.moments d told)

pub returns-in_ok-base-in-Ready-clause-second : goal.returns-in_ok-base-in-Ready-clause-second
returns-in_ok-base-in-Ready-clause-second g c = other_second (g.H.Host.disk c.args.host.now) (g.H.Host.disk c.keeping.new.host) c.in_ok-base-in-Ready.ensures.reads

pub returns-in_ok-base-in-Ready-clause-told : goal.returns-in_ok-base-in-Ready-clause-told
returns-in_ok-base-in-Ready-clause-told g c = other_told (g.H.Host.disk c.args.host.now) (g.H.Host.disk c.keeping.new.host) c.in_ok-base-in-Ready.ensures.reads c.in_ok-base-in-Ready.ensures.untold
