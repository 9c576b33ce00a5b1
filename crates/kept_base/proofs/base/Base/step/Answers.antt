use Rattle.std.proofs.Common.{sym, ap, subst}
use Rattle.std.specs.Prelude.{IfOk}
use Rattle.host_io.specs.Moments.{LeavesOnly}
use Rattle.reply_text.specs.declared.reply.Reply.TheVariants as reply
use Rattle.script_reader.specs.declared.request.Request.{Request}
use Rattle.script_reader.specs.declared.request.Request.TheVariants as request
use Rattle.base_engine.specs.Calls.{DiskKeeps, IsReopen, ReloadsWhatIsTold, StepLeaves, TouchesArea}
use Rattle.base_engine.specs.Requests.{IsGiven}
use Rattle.base_engine.specs.State.{MachineState}
use Rattle.base_engine.specs.Steps.{StepsTo}
use Rattle.kept_base.specs.Base.{StandsForState}
use Rattle.kept_base.proofs.HandedFaults.{ended_disk_fault, ended_no_damage, ended_no_memory, ended_stays}
use Rattle.kept_base.proofs.KeptHosts.{still_moments, still_second, still_told}
use Rattle.kept_base.proofs.SteppedBases.{bad_steps, quiet_steps}
use Rattle.kept_base.proofs.base.Base.step.Goals as goal

-- ---- a line

pub command-requires-clause-given : goal.command-requires-clause-given
command-requires-clause-given g c = subst IsGiven c.in-Plain.is c.requires.given

pub returns-in-Plain-clause-steps : goal.returns-in-Plain-clause-steps
returns-in-Plain-clause-steps g c = λ s stands keeps reloads.
    let before = g.H.Host.disk c.args.host.now in
    let after = g.H.Host.disk c.command.new.host in
    subst (λ (q : Request). IfOk c.command.result (λ done. (t : MachineState) × StepsTo s q done.1 t × StandsForState done.0 t × DiskKeeps after t.history)) (sym c.in-Plain.is)
    (c.command.ensures.steps s stands keeps (subst (λ (q : Request). ReloadsWhatIsTold q before) c.in-Plain.is reloads))

pub returns-in-Plain-clause-moments : goal.returns-in-Plain-clause-moments
returns-in-Plain-clause-moments g c = λ s stands d told keeps.
    let h = g.H.Host in
    subst (λ (q : Request). LeavesOnly h.clock h.might c.args.host.now c.command.new.host (StepLeaves s q (h.printed c.args.host.now) d.second.reads)) (sym c.in-Plain.is)
    (c.command.ensures.moments s stands d told keeps)

pub returns-in-Plain-clause-disk_fault : goal.returns-in-Plain-clause-disk_fault
returns-in-Plain-clause-disk_fault g c = λ e. (let found = c.command.ensures.disk_fault e in (subst TouchesArea (sym c.in-Plain.is) found.0, found.1))

pub returns-in-Plain-clause-damaged : goal.returns-in-Plain-clause-damaged
returns-in-Plain-clause-damaged g c = λ area at e. (let found = c.command.ensures.damaged area at e in (found.0, found.1, subst IsReopen (sym c.in-Plain.is) found.2))

-- ---- a block

pub returns-in_err-block-in-Block-clause-moments : goal.returns-in_err-block-in-Block-clause-moments
returns-in_err-block-in-Block-clause-moments g c = λ s stands d told keeps.
    let h = g.H.Host in
    subst (λ (q : Request). LeavesOnly h.clock h.might c.args.host.now c.block.new.host (StepLeaves s q (h.printed c.args.host.now) d.second.reads)) (sym c.in-Block.is)
    (c.in_err-block-in-Block.ensures.moments s stands d told keeps)

pub returns-in_err-block-in-Block-clause-untouched : goal.returns-in_err-block-in-Block-clause-untouched
returns-in_err-block-in-Block-clause-untouched g c = λ e. ap g.H.Host.disk (c.in_err-block-in-Block.ensures.untouched (ended_no_memory c.from_residual.result c.in_err-block-in-Block.field-0.0 c.from_residual.ensures.1 e))

pub returns-in_err-block-in-Block-clause-disk_fault : goal.returns-in_err-block-in-Block-clause-disk_fault
returns-in_err-block-in-Block-clause-disk_fault g c = λ e. (subst TouchesArea (sym c.in-Block.is) tt, c.in_err-block-in-Block.ensures.disk_fault (ended_disk_fault c.from_residual.result c.in_err-block-in-Block.field-0.0 c.from_residual.ensures.1 e))

pub returns-in_err-block-in-Block-clause-damaged : goal.returns-in_err-block-in-Block-clause-damaged
returns-in_err-block-in-Block-clause-damaged g c = λ area at e. absurd (ended_no_damage c.from_residual.result c.in_err-block-in-Block.field-0.0 c.from_residual.ensures.1 area at e)

pub returns-in_err-block-in-Block-clause-stays : goal.returns-in_err-block-in-Block-clause-stays
returns-in_err-block-in-Block-clause-stays g c = ended_stays c.from_residual.result c.in_err-block-in-Block.field-0.0 c.from_residual.ensures.1 _ c.in_err-block-in-Block.ensures.stays

pub returns-in_ok-block-in-Block-clause-steps : goal.returns-in_ok-block-in-Block-clause-steps
returns-in_ok-block-in-Block-clause-steps g c = λ s stands keeps reloads.
    let done = c.in_ok-block-in-Block.field-0 in
    subst (λ (q : Request). (t : MachineState) × StepsTo s q done.1 t × StandsForState done.0 t × DiskKeeps (g.H.Host.disk c.block.new.host) t.history) (sym c.in-Block.is)
    (c.in_ok-block-in-Block.ensures.steps s stands keeps)

pub returns-in_ok-block-in-Block-clause-moments : goal.returns-in_ok-block-in-Block-clause-moments
returns-in_ok-block-in-Block-clause-moments g c = λ s stands d told keeps.
    let h = g.H.Host in
    subst (λ (q : Request). LeavesOnly h.clock h.might c.args.host.now c.block.new.host (StepLeaves s q (h.printed c.args.host.now) d.second.reads)) (sym c.in-Block.is)
    (c.in_ok-block-in-Block.ensures.moments s stands d told keeps)

-- ---- a line that is refused by itself

pub returns-in-Bad-clause-steps : goal.returns-in-Bad-clause-steps
returns-in-Bad-clause-steps g c = λ s stands keeps reloads.
    let disk = g.H.Host.disk c.args.host.now in
    let told = quiet_steps c.args.self c.args.self disk (request.Bad c.in-Bad.refusal) (reply.Error c.in-Bad.refusal) (λ t. t) (bad_steps c.args.self c.in-Bad.refusal) s stands keeps in
    subst (λ (q : Request). (t : MachineState) × StepsTo s q (reply.Error c.in-Bad.refusal) t × StandsForState c.args.self t × DiskKeeps disk t.history) (sym c.in-Bad.is) told

pub returns-in-Bad-clause-moments : goal.returns-in-Bad-clause-moments
returns-in-Bad-clause-moments g c = λ s stands d told keeps.
    let h = g.H.Host in
    still_moments h.clock h.might c.args.host.now (h.disk c.args.host.now) (h.printed c.args.host.now) (g.met.H.Host.only_now c.args.host.now) s c.args.request d told keeps

pub returns-in-Bad-clause-second : goal.returns-in-Bad-clause-second
returns-in-Bad-clause-second g c = still_second (g.H.Host.disk c.args.host.now)

pub returns-in-Bad-clause-told : goal.returns-in-Bad-clause-told
returns-in-Bad-clause-told g c = still_told (g.H.Host.disk c.args.host.now)
