use Rattle.std.proofs.Common.{sym, subst}
use Rattle.gated_log.specs.State.{LogState}
use Rattle.base_store.specs.Loading.{HasReadAll}
use Rattle.base_store.proofs.EntriesRead.{read_first}
use Rattle.base_store.proofs.LoadMoments.{none_read}
use Rattle.base_store.proofs.load.read_all.Goals as goal

pub read_each-requires-clause-read : goal.read_each-requires-clause-read
read_each-requires-clause-read g c = read_first (g.H.Host.disk c.args.host.now) c.args.reader c.new-loading.result c.requires.start c.requires.ready c.new-loading.ensures

pub returns-clause-all : goal.returns-clause-all
returns-clause-all g c =
    subst (λ (l : LogState). HasReadAll (g.H.Host.disk c.read_each.new.host) l c.read_each.new.loading) (sym c.into_log.ensures) c.in_ok-read_each.ensures.all.1

pub returns-in_err-payload-clause-moments : goal.returns-in_err-payload-clause-moments
returns-in_err-payload-clause-moments g c =
    let h = g.H.Host in
    none_read h.disk h.printed h.clock h.might c.args.host.now (λ d told. (c.requires.ready d told).0) (g.met.H.Host.only_now c.args.host.now)
