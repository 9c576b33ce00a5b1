use Rattle.std.proofs.Common.{sym, subst}
use Rattle.std.specs.Prelude.{IsErrAnd}
use Rattle.gated_log.proofs.Since.{is_fault}
use Rattle.kept_base.proofs.LoadLemmas.{loads_behind, loads_fault, second_stays, stays_told, still_keeps}
use Rattle.kept_base.proofs.OpenedBases.{both_stay, damage_handed, damaged_not_fresh, loaded_initial, loaded_ready, undamaged}
use Rattle.kept_base.proofs.base.Base.load.Goals as goal

pub returns-in_err-store-clause-damages : goal.returns-in_err-store-clause-damages
returns-in_err-store-clause-damages g c = λ d told at damaged. (
  damage_handed c.from_residual.result c.in_err-store.field-0.0 c.from_residual.ensures.1 at d.first.reads damaged (c.in_err-store.ensures.damaged d told),
  both_stay (g.H.Host.disk c.args.host.now) (g.H.Host.disk c.load.new.host) c.in_err-store.ensures.unwritten d told (damaged_not_fresh d.first.reads at damaged),
)

pub returns-in_err-base-clause-damages : goal.returns-in_err-base-clause-damages
returns-in_err-base-clause-damages g c = λ d told at damaged. absurd (undamaged (g.H.Host.disk c.args.host.now) (g.H.Host.disk c.load.new.host) c.in_ok-store.store c.in_ok-store.loaded c.in_ok-store.ensures.ok d told at damaged)

pub returns-clause-loaded : goal.returns-clause-loaded
returns-clause-loaded g c = loaded_initial (g.H.Host.disk c.args.host.now) (g.H.Host.disk c.load.new.host) c.in_ok-store.store c.in_ok-store.loaded c.in_ok-base.base c.in_ok-base.ensures.stands c.in_ok-store.ensures.ok

pub returns-clause-ready : goal.returns-clause-ready
returns-clause-ready g c = loaded_ready (g.H.Host.disk c.args.host.now) (g.H.Host.disk c.load.new.host) c.in_ok-store.store c.in_ok-store.loaded c.in_ok-base.base c.in_ok-base.ensures.stands c.in_ok-store.ensures.ok c.in_ok-store.ensures.untold

pub returns-clause-damages : goal.returns-clause-damages
returns-clause-damages g c = λ d told at damaged. absurd (undamaged (g.H.Host.disk c.args.host.now) (g.H.Host.disk c.load.new.host) c.in_ok-store.store c.in_ok-store.loaded c.in_ok-store.ensures.ok d told at damaged)

pub returns-in_err-store-clause-second : goal.returns-in_err-store-clause-second
returns-in_err-store-clause-second g c = second_stays (g.H.Host.disk c.args.host.now) (g.H.Host.disk c.load.new.host) c.in_err-store.ensures.reads

pub returns-in_err-store-clause-told : goal.returns-in_err-store-clause-told
returns-in_err-store-clause-told g c = stays_told (g.H.Host.disk c.args.host.now) (g.H.Host.disk c.load.new.host) c.in_err-store.ensures.reads c.in_err-store.ensures.untold

pub returns-in_err-store-clause-no_memory : goal.returns-in_err-store-clause-no_memory
returns-in_err-store-clause-no_memory g c = λ e. still_keeps (g.H.Host.disk c.args.host.now) (g.H.Host.disk c.load.new.host) c.in_err-store.ensures.reads

pub returns-in_err-store-clause-moments : goal.returns-in_err-store-clause-moments
returns-in_err-store-clause-moments g c = λ d told h keeps.
    let host = g.H.Host in
    loads_fault host.clock host.might d (host.printed c.args.host.now) h keeps c.load.result c.from_residual.result c.args.host.now c.load.new.host
    (subst (λ r. IsErrAnd r (λ e. Unit {0})) (sym c.in_err-store.was) tt) (is_fault c.from_residual.result _ c.from_residual.ensures.1) (c.load.ensures.opening d told)

pub returns-in_err-base-clause-second : goal.returns-in_err-base-clause-second
returns-in_err-base-clause-second g c = second_stays (g.H.Host.disk c.args.host.now) (g.H.Host.disk c.load.new.host) c.in_ok-store.ensures.reads

pub returns-in_err-base-clause-told : goal.returns-in_err-base-clause-told
returns-in_err-base-clause-told g c = stays_told (g.H.Host.disk c.args.host.now) (g.H.Host.disk c.load.new.host) c.in_ok-store.ensures.reads c.in_ok-store.ensures.untold

pub returns-in_err-base-clause-no_memory : goal.returns-in_err-base-clause-no_memory
returns-in_err-base-clause-no_memory g c = λ e. still_keeps (g.H.Host.disk c.args.host.now) (g.H.Host.disk c.load.new.host) c.in_ok-store.ensures.reads

pub returns-in_err-base-clause-moments : goal.returns-in_err-base-clause-moments
returns-in_err-base-clause-moments g c = λ d told h keeps.
    let host = g.H.Host in
    loads_behind host.clock host.might d (host.printed c.args.host.now) h keeps c.load.result _ _ c.args.host.now c.load.new.host c.in_ok-store.was (c.load.ensures.opening d told)

pub returns-clause-second : goal.returns-clause-second
returns-clause-second g c = second_stays (g.H.Host.disk c.args.host.now) (g.H.Host.disk c.load.new.host) c.in_ok-store.ensures.reads

pub returns-clause-told : goal.returns-clause-told
returns-clause-told g c = stays_told (g.H.Host.disk c.args.host.now) (g.H.Host.disk c.load.new.host) c.in_ok-store.ensures.reads c.in_ok-store.ensures.untold

pub returns-clause-moments : goal.returns-clause-moments
returns-clause-moments g c = λ d told h keeps.
    let host = g.H.Host in
    loads_behind host.clock host.might d (host.printed c.args.host.now) h keeps c.load.result _ _ c.args.host.now c.load.new.host c.in_ok-store.was (c.load.ensures.opening d told)
