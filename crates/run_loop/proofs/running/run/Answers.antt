use Rattle.std.proofs.Common.{refl, ◌≡◌, ◌⊎◌, inl, inr, ⊎_elim, List, ℕ, Some, ap, subst, ◌∙◌, Option, arith}
use Rattle.std.specs.Prelude.{Ok, Err}
use Rattle.host_io.specs.Disk.{Disk}
use Rattle.base_store.specs.History.{History}
use Rattle.base_store.specs.Area.{KeepsHistory}
use Rattle.base_store.proofs.Areas.{keeps_or_is_damaged}
use Rattle.base_engine.specs.Calls.{Loads}
use Rattle.run_loop.specs.Run.{RanOpened, NotOpened}
use Rattle.base_engine.specs.declared.engine.EndFault.{EndFault}
use Rattle.run_loop.specs.declared.ending.Ending.TheVariants as ending
use Rattle.run_loop.proofs.OpenLemmas.{opened, ran_opened, complete_opened, complete_not, cause_of, ending_of}
use Rattle.run_loop.proofs.running.run.Goals.{After-run_loaded, After-ending}
use Rattle.run_loop.proofs.running.run.Given.{Over}
use Rattle.run_loop.proofs.TakenLemmas.{has_none, takes_within}
use Rattle.run_loop.proofs.running.run.Goals as goal

ran : (g : Over) (c : After-run_loaded g) (input : List ℕ) → g.S.Source.left c.args.source.now ≡ Some input → (d : Disk) → g.H.Host.disk c.args.host.now ≡ Some d → (before : List ℕ) → g.H.Host.printed c.args.host.now ≡ Some before
    → (h : History) → KeepsHistory d.first.reads h
    → RanOpened g.H.Host.disk g.H.Host.printed g.H.Host.clock g.H.Host.might d h before c.run_loaded.result input (g.S.Source.left c.run_loaded.new.source) c.args.host.now c.run_loaded.new.host
ran g c input told d is before shown h keeps =
    let o = g.H.Host in
    let base = c.in-Ok.ensures.loaded d is h keeps in
    let opens = subst (λ (p : Option (List ℕ)). Loads {E = EndFault} o.clock o.might d p h (Ok c.in-Ok.engine) c.args.host.now c.load.new.host) shown (c.in-Ok.ensures.moments d is h keeps) in
    let serves = opened o.disk o.printed o.clock o.might h before d.second.reads base.0 c.args.host.now c.load.new.host d base.1 base.3 c.load.ensures.told (c.load.ensures.second d is) is shown c.load.ensures.printed (g.met.H.Host.only_now c.load.new.host) in
    ran_opened o.disk o.printed o.clock o.might h before d c.run_loaded.result input (g.S.Source.left c.run_loaded.new.source) c.args.host.now c.load.new.host c.run_loaded.new.host opens.moments opens.synced
    (c.run_loaded.ensures.run c.load.new.host (record { history = h; second = d.second.reads; before = before }) base.0 base.2 serves input told)
    (λ t l. g.met.H.Host.counts_now c.run_loaded.new.host t l) (λ e. g.met.H.Host.reads_now c.run_loaded.new.host e)

pub returns-in-Ok-clause-run : goal.returns-in-Ok-clause-run
returns-in-Ok-clause-run g c = λ input told d is before shown h keeps. inl (ran g c input told d is before shown h keeps)

pub returns-in-Ok-clause-completes : goal.returns-in-Ok-clause-completes
returns-in-Ok-clause-completes g c = λ input told d is before shown h keeps few.
    let r = ran g c input told d is before shown h keeps in
    complete_opened c.run_loaded.result (record { history = h; second = d.second.reads; before = before }) r.read r.rest input _ _ r.parts few r.ends

-- the base could not be opened
cause : (g : Over) (c : After-ending g) (d : Disk) → g.H.Host.disk c.args.host.now ≡ Some d → (h : History) → KeepsHistory d.first.reads h → (c.ending.result ≡ ending.NoMemory) ⊎ (c.ending.result ≡ ending.DiskFault)
cause g c d is h keeps = cause_of c.ending.result c.fault_of.result c.ending.ensures.of c.fault_of.ensures.not_print
    (λ area at same. keeps_or_is_damaged d.first.reads h at keeps (c.load.ensures.damaged area at (c.in-Err.is ∙ ap Err (c.fault_of.ensures.damaged area at same)) d is).offends)

pub returns-in-Err-clause-run : goal.returns-in-Err-clause-run
returns-in-Err-clause-run g c = λ input told d is before shown h keeps.
    let o = g.H.Host in
    let opens = subst (λ (p : Option (List ℕ)). Loads {T = g.row.E.Denot} o.clock o.might d p h (Err c.in-Err.end) c.args.host.now c.load.new.host) shown (c.in-Err.ensures.moments d is h keeps) in
    let same : NotOpened o.disk o.printed o.clock o.might d h before c.ending.result input (g.S.Source.left c.args.source.now) c.args.host.now c.load.new.host = record {
      cause = cause g c d is h keeps;
      unread = told;
      unprinted = c.load.ensures.printed ∙ shown;
      keeps = λ memory. c.load.ensures.no_memory (c.in-Err.is ∙ ap Err (c.fault_of.ensures.memory (c.ending.ensures.memory memory))) d is h keeps;
      earlier = opens.moments;
      synced = opens.or_not;
    } in
    inr same

pub returns-in-Err-clause-completes : goal.returns-in-Err-clause-completes
returns-in-Err-clause-completes g c = λ input told d is before shown h keeps few. complete_not c.ending.result (cause g c d is h keeps)

pub returns-in-Ok-clause-damages : goal.returns-in-Ok-clause-damages
returns-in-Ok-clause-damages g c = λ d is at offends. absurd (⊎_elim (λ e. never e) (⊎_elim (λ e. never e) (λ e. never e)) (c.load.ensures.damages d is at offends).0)
  where
    never : {f : EndFault} → c.load.result ≡ Err f → ⊥
    never e = let okay = c.in-Ok.is in cc

pub returns-in-Err-clause-damages : goal.returns-in-Err-clause-damages
returns-in-Err-clause-damages g c = λ d is at offends.
    let says = c.load.ensures.damages d is at offends in (
      ending_of c.in-Err.end c.fault_of.result c.ending.result at c.fault_of.ensures.of c.ending.ensures.of
          (⊎_elim (λ e. inl (let err = c.in-Err.is in cc)) (⊎_elim (λ e. inr (inl (let err = c.in-Err.is in cc))) (λ e. inr (inr (let err = c.in-Err.is in cc)))) says.0),
      says.1,
      refl,
      c.load.ensures.printed,
    )

pub returns-in-Ok-clause-damaged : goal.returns-in-Ok-clause-damaged
returns-in-Ok-clause-damaged g c = λ area at damaged d is. absurd (let to = c.load.ensures.told.told d is in c.run_loaded.ensures.undamaged to.0 to.1 area at damaged)

pub returns-in-Err-clause-damaged : goal.returns-in-Err-clause-damaged
returns-in-Err-clause-damaged g c = λ area at damaged d is. c.load.ensures.damaged area at (c.in-Err.is ∙ ap Err (c.fault_of.ensures.damaged area at (c.ending.ensures.damaged area at damaged))) d is

pub returns-in-Err-clause-takes_input : goal.returns-in-Err-clause-takes_input
returns-in-Err-clause-takes_input g c = λ input is. takes_within c.ending.result input 0 _ (has_none input _ is) (omega arith) c.ending.ensures.not_large c.ending.ensures.not_done
