use Rattle.std.proofs.Common.{inr, refl, sym, ap, subst, arith}
use Rattle.std.specs.Prelude.{IfOk}
use Rattle.std.proofs.lemmas.Result.{IfOk-from_err}
use Rattle.host_io.specs.Moments.{LeavesOnly}
use Rattle.script_reader.specs.declared.command.Command.{Command}
use Rattle.script_reader.specs.declared.request.Request.TheVariants as request
use Rattle.base_engine.specs.Calls.{DiskKeeps, StepLeaves, TouchesArea}
use Rattle.base_engine.specs.State.{MachineState}
use Rattle.base_engine.specs.Steps.{StepsTo}
use Rattle.kept_base.specs.Base.{StandsForState}
use Rattle.kept_base.proofs.HandedFaults.{ended_disk_fault, ended_no_damage, ended_no_memory, ended_stays, leaves_area, memory_no_damage, memory_no_fault, no_error}
use Rattle.kept_base.proofs.KeptHosts.{still_moments, still_second, still_told}
use Rattle.kept_base.proofs.SteppedBases.{quiet_ready, quiet_steps, reloaded_steps}
use Rattle.kept_base.proofs.base.Base.command.Goals as goal

-- ---- a commit

pub returns-in_err-commit-in-Commit-clause-moments : goal.returns-in_err-commit-in-Commit-clause-moments
returns-in_err-commit-in-Commit-clause-moments g c = λ s stands d told keeps.
    let h = g.H.Host in
    subst (λ (k : Command). LeavesOnly h.clock h.might c.args.host.now c.commit.new.host (StepLeaves s (request.Plain k) (h.printed c.args.host.now) d.second.reads)) (sym c.in-Commit.is)
    (c.in_err-commit-in-Commit.ensures.moments s stands d told keeps)

pub returns-in_err-commit-in-Commit-clause-untouched : goal.returns-in_err-commit-in-Commit-clause-untouched
returns-in_err-commit-in-Commit-clause-untouched g c = λ e. ap g.H.Host.disk (c.in_err-commit-in-Commit.ensures.untouched (ended_no_memory c.from_residual.result c.in_err-commit-in-Commit.field-0.0 c.from_residual.ensures.1 e))

pub returns-in_err-commit-in-Commit-clause-disk_fault : goal.returns-in_err-commit-in-Commit-clause-disk_fault
returns-in_err-commit-in-Commit-clause-disk_fault g c = λ e. (
  subst (λ (k : Command). TouchesArea (request.Plain k)) (sym c.in-Commit.is) tt,
  c.in_err-commit-in-Commit.ensures.disk_fault (ended_disk_fault c.from_residual.result c.in_err-commit-in-Commit.field-0.0 c.from_residual.ensures.1 e),
)

pub returns-in_err-commit-in-Commit-clause-damaged : goal.returns-in_err-commit-in-Commit-clause-damaged
returns-in_err-commit-in-Commit-clause-damaged g c = λ area at e. absurd (ended_no_damage c.from_residual.result c.in_err-commit-in-Commit.field-0.0 c.from_residual.ensures.1 area at e)

pub returns-in_err-commit-in-Commit-clause-stays : goal.returns-in_err-commit-in-Commit-clause-stays
returns-in_err-commit-in-Commit-clause-stays g c = ended_stays c.from_residual.result c.in_err-commit-in-Commit.field-0.0 c.from_residual.ensures.1 _ c.in_err-commit-in-Commit.ensures.stays

pub returns-in_ok-commit-in-Commit-clause-steps : goal.returns-in_ok-commit-in-Commit-clause-steps
returns-in_ok-commit-in-Commit-clause-steps g c = λ s stands keeps reloads.
    let done = c.in_ok-commit-in-Commit.field-0 in
    subst (λ (k : Command). (t : MachineState) × StepsTo s (request.Plain k) done.1 t × StandsForState done.0 t × DiskKeeps (g.H.Host.disk c.commit.new.host) t.history) (sym c.in-Commit.is)
    (c.in_ok-commit-in-Commit.ensures.steps s stands keeps)

pub returns-in_ok-commit-in-Commit-clause-moments : goal.returns-in_ok-commit-in-Commit-clause-moments
returns-in_ok-commit-in-Commit-clause-moments g c = λ s stands d told keeps.
    let h = g.H.Host in
    subst (λ (k : Command). LeavesOnly h.clock h.might c.args.host.now c.commit.new.host (StepLeaves s (request.Plain k) (h.printed c.args.host.now) d.second.reads)) (sym c.in-Commit.is)
    (c.in_ok-commit-in-Commit.ensures.moments s stands d told keeps)

-- ---- a base that is loaded again

pub returns-in-Reopen-clause-steps : goal.returns-in-Reopen-clause-steps
returns-in-Reopen-clause-steps g c = λ s stands keeps reloads.
    let disk = g.H.Host.disk c.args.host.now in
    let after = g.H.Host.disk c.reopen.new.host in
    let asks = ap (λ (k : Command). request.Plain k) c.in-Reopen.is in
    subst (λ (k : Command). IfOk c.reopen.result (λ done. (t : MachineState) × StepsTo s (request.Plain k) done.1 t × StandsForState done.0 t × DiskKeeps after t.history)) (sym c.in-Reopen.is)
    (reloaded_steps disk (request.Plain c.args.command) s.history _ asks keeps reloads (c.reopen.ensures.steps s stands))

pub returns-in-Reopen-clause-moments : goal.returns-in-Reopen-clause-moments
returns-in-Reopen-clause-moments g c = λ s stands d told keeps.
    let h = g.H.Host in
    subst (λ (k : Command). LeavesOnly h.clock h.might c.args.host.now c.reopen.new.host (StepLeaves s (request.Plain k) (h.printed c.args.host.now) d.second.reads)) (sym c.in-Reopen.is)
    (c.reopen.ensures.moments s stands d told (keeps d refl))

pub returns-in-Reopen-clause-disk_fault : goal.returns-in-Reopen-clause-disk_fault
returns-in-Reopen-clause-disk_fault g c = λ e. (subst (λ (k : Command). TouchesArea (request.Plain k)) (sym c.in-Reopen.is) tt, c.reopen.ensures.disk_fault e)

pub returns-in-Reopen-clause-damaged : goal.returns-in-Reopen-clause-damaged
returns-in-Reopen-clause-damaged g c = λ area at e. (let found = c.reopen.ensures.damaged area at e in (found.0, found.1, ap (λ (k : Command). request.Plain k) c.in-Reopen.is))

-- ---- all else

pub quiet-requires : goal.quiet-requires
quiet-requires g c = record {
  given = c.requires.given;
  quiet = leaves_area c.args.command c.in_default.not-Commit c.in_default.not-Reopen;
  few = c.requires.few;
}

pub returns-in_err-quiet-in_default : goal.returns-in_err-quiet-in_default
returns-in_err-quiet-in_default g c =
    let h = g.H.Host in
    let host = c.args.host.now in
    let result = c.from_residual-in_err-quiet-in_default.result in
    let handed = c.from_residual-in_err-quiet-in_default.ensures in
    record {
      steps = λ s stands keeps reloads. IfOk-from_err result _ handed.0;
      ready = IfOk-from_err result _ handed.0;
      completed = IfOk-from_err result _ handed.0;
      counted = omega arith;
      one = IfOk-from_err result _ handed.0;
      moments = λ s stands d told keeps. still_moments h.clock h.might host (h.disk host) (h.printed host) (g.met.H.Host.only_now host) s (request.Plain c.args.command) d told keeps;
      second = still_second (h.disk host);
      untouched = λ e. refl;
      disk_fault = λ e. absurd (memory_no_fault result handed.1 e);
      damaged = λ area at e. absurd (memory_no_damage result handed.1 area at e);
      stays = inr refl;
      later = omega arith;
      told = still_told (h.disk host);
      printed = refl;
      other = refl;
    }

pub returns-in_ok-quiet-in_default : goal.returns-in_ok-quiet-in_default
returns-in_ok-quiet-in_default g c =
    let h = g.H.Host in
    let host = c.args.host.now in
    let done = c.in_ok-quiet-in_default.field-0 in
    let quiet = leaves_area c.args.command c.in_default.not-Commit c.in_default.not-Reopen in
    let step = c.in_ok-quiet-in_default.ensures.step in
    record {
      steps = λ s stands keeps reloads. quiet_steps c.args.self done.0 (h.disk host) (request.Plain c.args.command) done.1 quiet step s stands keeps;
      ready = quiet_ready c.args.self done.0 (h.disk host) (request.Plain c.args.command) done.1 quiet step c.requires.ready;
      completed = c.in_ok-quiet-in_default.ensures.completed;
      counted = omega arith;
      one = c.in_ok-quiet-in_default.ensures.one;
      moments = λ s stands d told keeps. still_moments h.clock h.might host (h.disk host) (h.printed host) (g.met.H.Host.only_now host) s (request.Plain c.args.command) d told keeps;
      second = still_second (h.disk host);
      untouched = λ e. refl;
      disk_fault = λ e. absurd (no_error done e);
      damaged = λ area at e. absurd (no_error done e);
      stays = inr refl;
      later = omega arith;
      told = still_told (h.disk host);
      printed = refl;
      other = refl;
    }
