use Rattle.kept_base.specs.Base.{StandsForState}
use Rattle.kept_base.proofs.LoadLemmas.{stays_told}
use Rattle.kept_base.proofs.OpenedBases.{damage_first, loaded_ready, reopen_damage, reopen_moments, reopen_second, reopen_stays, reopen_steps}
use Rattle.kept_base.proofs.base.Base.reopen.Goals as goal

pub returns-in_err-store-clause-moments : goal.returns-in_err-store-clause-moments
returns-in_err-store-clause-moments g c = λ s stands d told rest. (let h = g.H.Host in reopen_moments h.clock h.might c.args.host.now c.load.new.host (h.printed c.args.host.now) s d rest (c.in_err-store.ensures.moments d told))

pub returns-in_err-store-clause-second : goal.returns-in_err-store-clause-second
returns-in_err-store-clause-second g c = reopen_second (StandsForState c.args.self) (g.H.Host.disk c.args.host.now) (g.H.Host.disk c.load.new.host) c.requires.ready c.in_err-store.ensures.unwritten

pub returns-in_err-store-clause-untouched : goal.returns-in_err-store-clause-untouched
returns-in_err-store-clause-untouched g c = λ e. reopen_stays (StandsForState c.args.self) (g.H.Host.disk c.args.host.now) (g.H.Host.disk c.load.new.host) c.requires.ready c.in_err-store.ensures.unwritten c.in_err-store.ensures.untold

pub returns-in_err-store-clause-damaged : goal.returns-in_err-store-clause-damaged
returns-in_err-store-clause-damaged g c = λ area at e. (
  reopen_damage (StandsForState c.args.self) (g.H.Host.disk c.args.host.now) (g.H.Host.disk c.load.new.host) c.requires.ready c.from_residual.result c.in_err-store.field-0.0 c.from_residual.ensures.1 c.in_err-store.ensures.damaged area at e,
  damage_first c.from_residual.result c.in_err-store.field-0.0 c.from_residual.ensures.1 c.in_err-store.ensures.damaged_area area at e,
)

pub returns-in_err-store-clause-told : goal.returns-in_err-store-clause-told
returns-in_err-store-clause-told g c = stays_told (g.H.Host.disk c.args.host.now) (g.H.Host.disk c.load.new.host) c.in_err-store.ensures.reads c.in_err-store.ensures.untold

pub returns-in_err-base-clause-told : goal.returns-in_err-base-clause-told
returns-in_err-base-clause-told g c = stays_told (g.H.Host.disk c.args.host.now) (g.H.Host.disk c.load.new.host) c.in_ok-store.ensures.reads c.in_ok-store.ensures.untold

pub returns-clause-told : goal.returns-clause-told
returns-clause-told g c = stays_told (g.H.Host.disk c.args.host.now) (g.H.Host.disk c.load.new.host) c.in_ok-store.ensures.reads c.in_ok-store.ensures.untold

pub returns-in_err-base-clause-moments : goal.returns-in_err-base-clause-moments
returns-in_err-base-clause-moments g c = λ s stands d told rest. (let h = g.H.Host in reopen_moments h.clock h.might c.args.host.now c.load.new.host (h.printed c.args.host.now) s d rest (c.in_ok-store.ensures.moments d told))

pub returns-in_err-base-clause-second : goal.returns-in_err-base-clause-second
returns-in_err-base-clause-second g c = reopen_second (StandsForState c.args.self) (g.H.Host.disk c.args.host.now) (g.H.Host.disk c.load.new.host) c.requires.ready c.in_ok-store.ensures.unwritten

pub returns-in_err-base-clause-untouched : goal.returns-in_err-base-clause-untouched
returns-in_err-base-clause-untouched g c = λ e. reopen_stays (StandsForState c.args.self) (g.H.Host.disk c.args.host.now) (g.H.Host.disk c.load.new.host) c.requires.ready c.in_ok-store.ensures.unwritten c.in_ok-store.ensures.untold

pub returns-clause-moments : goal.returns-clause-moments
returns-clause-moments g c = λ s stands d told rest. (let h = g.H.Host in reopen_moments h.clock h.might c.args.host.now c.load.new.host (h.printed c.args.host.now) s d rest (c.in_ok-store.ensures.moments d told))

pub returns-clause-second : goal.returns-clause-second
returns-clause-second g c = reopen_second (StandsForState c.args.self) (g.H.Host.disk c.args.host.now) (g.H.Host.disk c.load.new.host) c.requires.ready c.in_ok-store.ensures.unwritten

pub returns-clause-steps : goal.returns-clause-steps
returns-clause-steps g c = λ s stands d told rest. reopen_steps (g.H.Host.disk c.args.host.now) (g.H.Host.disk c.load.new.host) c.in_ok-store.store c.in_ok-store.loaded c.in_ok-base.base c.in_ok-base.ensures.stands c.in_ok-store.ensures.ok s d told rest

pub returns-clause-ready : goal.returns-clause-ready
returns-clause-ready g c = loaded_ready (g.H.Host.disk c.args.host.now) (g.H.Host.disk c.load.new.host) c.in_ok-store.store c.in_ok-store.loaded c.in_ok-base.base c.in_ok-base.ensures.stands c.in_ok-store.ensures.ok c.in_ok-store.ensures.untold
