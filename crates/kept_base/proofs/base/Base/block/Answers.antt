use Rattle.std.proofs.Common.{◌≡◌, inl, inr, List, Some, length, refl, sym, ◌∙◌, ap, subst, arith}
use Rattle.std.specs.Option.{ForSome}
use Rattle.host_io.specs.Disk.{Disk, IsSettled}
use Rattle.dl_base.specs.declared.concept.Inclusion.{Inclusion}
use Rattle.base_store.specs.History.{with_ontology}
use Rattle.base_store.specs.Store.{StandsForNext}
use Rattle.reply_text.specs.declared.reply.Reply.TheVariants as reply
use Rattle.script_reader.specs.declared.request.Request.TheVariants as request
use Rattle.base_engine.specs.declared.engine.CommitFault.TheVariants as fault
use Rattle.kept_base.specs.Base.{BaseState, base_of}
use Rattle.kept_base.proofs.KeptHosts.{handed_on, other_second, other_told, ready_next, refused_steps, steps_next, still_moments, still_second, still_told}
use Rattle.kept_base.proofs.LoadedBases.{some_not_none}
use Rattle.kept_base.proofs.TakenBlocks.{first_has, leads_first, moments_first, ready_first, room_first, sound_first, steps_first}
use Rattle.kept_base.proofs.base.Base.block.Goals as goal

-- ---- want of memory

pub returns-in_err-contents-in-Ok-clause-moments : goal.returns-in_err-contents-in-Ok-clause-moments
returns-in_err-contents-in-Ok-clause-moments g c = λ s stands d told keeps.
    let h = g.H.Host in
    still_moments h.clock h.might c.args.host.now (h.disk c.args.host.now) (h.printed c.args.host.now) (g.met.H.Host.only_now c.args.host.now) s (request.Block c.args.block) d told keeps

pub returns-in_err-contents-in-Ok-clause-second : goal.returns-in_err-contents-in-Ok-clause-second
returns-in_err-contents-in-Ok-clause-second g c = still_second (g.H.Host.disk c.args.host.now)

pub returns-in_err-contents-in-Ok-clause-told : goal.returns-in_err-contents-in-Ok-clause-told
returns-in_err-contents-in-Ok-clause-told g c = still_told (g.H.Host.disk c.args.host.now)

-- ---- a refusal

pub returns-in-Err-clause-steps : goal.returns-in-Err-clause-steps
returns-in-Err-clause-steps g c = refused_steps c.args.self c.args.self (g.H.Host.disk c.args.host.now) (request.Block c.args.block) c.in-Err.refusal (refl, c.in-Err.ensures)

pub returns-in-Err-clause-moments : goal.returns-in-Err-clause-moments
returns-in-Err-clause-moments g c = λ s stands d told keeps.
    let h = g.H.Host in
    still_moments h.clock h.might c.args.host.now (h.disk c.args.host.now) (h.printed c.args.host.now) (g.met.H.Host.only_now c.args.host.now) s (request.Block c.args.block) d told keeps

pub returns-in-Err-clause-second : goal.returns-in-Err-clause-second
returns-in-Err-clause-second g c = still_second (g.H.Host.disk c.args.host.now)

pub returns-in-Err-clause-told : goal.returns-in-Err-clause-told
returns-in-Err-clause-told g c = still_told (g.H.Host.disk c.args.host.now)

-- ---- an ontology that is kept

pub unreachable-requires : goal.unreachable-requires
unreachable-requires g c = some_not_none c.in-Ok.ontology (sym c.in_default.ensures ∙ first_has c.self.inside.contents c.self.inside.store c.args.self c.self.view_is c.in-Ok.ontology c.in-Ok.ensures.1 c.in_ok-contents-in-Ok.contents c.in_ok-contents-in-Ok.ensures)

pub keep_ontology-requires-clause-room : goal.keep_ontology-requires-clause-room
keep_ontology-requires-clause-room g c = room_first c.self.inside.contents c.self.inside.store c.args.self c.self.view_is c.in-Ok.ontology c.in-Ok.ensures.1 c.in_ok-contents-in-Ok.contents c.in_ok-contents-in-Ok.ensures c.in-Some.ontology.now c.in-Some.ensures

pub keep_ontology-requires-clause-ready : goal.keep_ontology-requires-clause-ready
keep_ontology-requires-clause-ready g c = ready_first c.self.inside.contents c.self.inside.store c.args.self c.self.view_is c.in-Ok.ontology c.in-Ok.ensures.1 c.in_ok-contents-in-Ok.contents c.in_ok-contents-in-Ok.ensures c.in-Some.ontology.now c.in-Some.ensures (g.H.Host.disk c.args.host.now) c.requires.ready

pub returns-in_err-store-in-Ok-clause-moments : goal.returns-in_err-store-in-Ok-clause-moments
returns-in_err-store-in-Ok-clause-moments g c = λ s stands d told keeps.
    let h = g.H.Host in
    moments_first c.self.inside.contents c.self.inside.store c.args.self c.self.view_is c.in-Ok.ontology c.in-Ok.ensures.1 c.in_ok-contents-in-Ok.contents c.in_ok-contents-in-Ok.ensures c.in-Some.ontology.now c.in-Some.ensures c.args.block c.in-Ok.ensures.0 h.clock h.might c.args.host.now c.keep_ontology.new.host (h.printed c.args.host.now) s stands d keeps (c.in_err-store-in-Ok.ensures.moments d told)

pub returns-in_err-store-in-Ok-clause-second : goal.returns-in_err-store-in-Ok-clause-second
returns-in_err-store-in-Ok-clause-second g c = other_second (g.H.Host.disk c.args.host.now) (g.H.Host.disk c.keep_ontology.new.host) c.in_err-store-in-Ok.ensures.reads

pub returns-in_err-store-in-Ok-clause-told : goal.returns-in_err-store-in-Ok-clause-told
returns-in_err-store-in-Ok-clause-told g c = other_told (g.H.Host.disk c.args.host.now) (g.H.Host.disk c.keep_ontology.new.host) c.in_err-store-in-Ok.ensures.reads c.in_err-store-in-Ok.ensures.untold

pub invariant_of-base : goal.invariant_of-base
invariant_of-base g c = sound_first c.self.inside.contents c.self.inside.store c.args.self c.self.view_is c.in-Ok.ontology c.in-Ok.ensures.1 c.in_ok-contents-in-Ok.contents c.in_ok-contents-in-Ok.ensures c.self.invariant c.in_ok-store-in-Ok.store

pub returns-in_ok-store-in-Ok-clause-steps : goal.returns-in_ok-store-in-Ok-clause-steps
returns-in_ok-store-in-Ok-clause-steps g c =
    let h = g.H.Host in
    let done = c.in_ok-store-in-Ok in
    steps_next c.args.self (with_ontology c.in-Some.ontology.now) (h.disk c.args.host.now) (h.disk c.keep_ontology.new.host) done.store done.ensures.untold
    (subst (λ (b : BaseState). ForSome (h.disk c.args.host.now) (λ d. (e : Disk) × (h.disk c.keep_ontology.new.host ≡ Some e) × IsSettled e × (e.second ≡ d.second) × StandsForNext (with_ontology c.in-Some.ontology.now) b.store d done.store e)) c.self.view_is done.ensures.ok)
    (request.Block c.args.block) (reply.Loaded (length c.inclusions.result.now)) (base_of c.in_ok-contents-in-Ok.contents done.store) (leads_first c.self.inside.contents c.self.inside.store c.args.self c.self.view_is c.in-Ok.ontology c.in-Ok.ensures.1 c.in_ok-contents-in-Ok.contents c.in_ok-contents-in-Ok.ensures c.in-Some.ontology.now c.in-Some.ensures c.args.block c.in-Ok.ensures.0 done.store done.ensures.store (length c.inclusions.result.now) (ap (λ (is : List Inclusion). length is) c.inclusions.ensures.list))

pub returns-in_ok-store-in-Ok-clause-ready : goal.returns-in_ok-store-in-Ok-clause-ready
returns-in_ok-store-in-Ok-clause-ready g c =
    let h = g.H.Host in
    let done = c.in_ok-store-in-Ok in
    ready_next c.args.self (with_ontology c.in-Some.ontology.now) (h.disk c.args.host.now) (h.disk c.keep_ontology.new.host) done.store done.ensures.untold
    (subst (λ (b : BaseState). ForSome (h.disk c.args.host.now) (λ d. (e : Disk) × (h.disk c.keep_ontology.new.host ≡ Some e) × IsSettled e × (e.second ≡ d.second) × StandsForNext (with_ontology c.in-Some.ontology.now) b.store d done.store e)) c.self.view_is done.ensures.ok)
    (request.Block c.args.block) (reply.Loaded (length c.inclusions.result.now)) (base_of c.in_ok-contents-in-Ok.contents done.store) (leads_first c.self.inside.contents c.self.inside.store c.args.self c.self.view_is c.in-Ok.ontology c.in-Ok.ensures.1 c.in_ok-contents-in-Ok.contents c.in_ok-contents-in-Ok.ensures c.in-Some.ontology.now c.in-Some.ensures c.args.block c.in-Ok.ensures.0 done.store done.ensures.store (length c.inclusions.result.now) (ap (λ (is : List Inclusion). length is) c.inclusions.ensures.list)) c.requires.ready

pub returns-in_ok-store-in-Ok-clause-one : goal.returns-in_ok-store-in-Ok-clause-one
returns-in_ok-store-in-Ok-clause-one g c = (let e = steps_first c.self.inside.contents c.self.inside.store c.args.self c.self.view_is c.in-Ok.ontology c.in-Ok.ensures.1 c.in_ok-contents-in-Ok.contents c.in_ok-contents-in-Ok.ensures c.in_ok-store-in-Ok.store in omega (arith, e))

pub returns-in_ok-store-in-Ok-clause-moments : goal.returns-in_ok-store-in-Ok-clause-moments
returns-in_ok-store-in-Ok-clause-moments g c = λ s stands d told keeps.
    let h = g.H.Host in
    moments_first c.self.inside.contents c.self.inside.store c.args.self c.self.view_is c.in-Ok.ontology c.in-Ok.ensures.1 c.in_ok-contents-in-Ok.contents c.in_ok-contents-in-Ok.ensures c.in-Some.ontology.now c.in-Some.ensures c.args.block c.in-Ok.ensures.0 h.clock h.might c.args.host.now c.keep_ontology.new.host (h.printed c.args.host.now) s stands d keeps (c.in_ok-store-in-Ok.ensures.moments d told)

pub returns-in_ok-store-in-Ok-clause-second : goal.returns-in_ok-store-in-Ok-clause-second
returns-in_ok-store-in-Ok-clause-second g c = other_second (g.H.Host.disk c.args.host.now) (g.H.Host.disk c.keep_ontology.new.host) c.in_ok-store-in-Ok.ensures.reads

pub returns-in_ok-store-in-Ok-clause-told : goal.returns-in_ok-store-in-Ok-clause-told
returns-in_ok-store-in-Ok-clause-told g c = other_told (g.H.Host.disk c.args.host.now) (g.H.Host.disk c.keep_ontology.new.host) c.in_ok-store-in-Ok.ensures.reads c.in_ok-store-in-Ok.ensures.untold

pub returns-in_err-store-in-Ok-clause-stays : goal.returns-in_err-store-in-Ok-clause-stays
returns-in_err-store-in-Ok-clause-stays g c = elim c.in_err-store-in-Ok.ensures.stays [
  | inl e ↦ inl (handed_on c.from_residual-in_err-store-in-Ok.result c.in_err-store-in-Ok.field-0.0 fault.DiskFault c.from_residual-in_err-store-in-Ok.ensures.1 e)
  | inr same ↦ inr same
]
