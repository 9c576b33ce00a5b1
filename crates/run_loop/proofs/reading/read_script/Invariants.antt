use Rattle.std.proofs.Common.{◌≡◌, ◌≤◌, ◌-◌, [], List, ℕ, length, Some}
use Rattle.base_engine.specs.State.{MachineState}
use Rattle.std.specs.Option.{ForSome}
use Rattle.run_loop.specs.Run.{HasTaken}
use Rattle.base_engine.specs.Calls.{HasKeptState, StaysTold}
use Rattle.run_loop.specs.Serving.{Opening, Serves}
use Rattle.run_loop.proofs.RunLemmas.{Taken}
use Rattle.run_loop.proofs.reading.read_script.Given as goal

abbrev pub invariant-pieces : goal.invariant-pieces
invariant-pieces g l =
    let s = g.S.Source in
    let h = g.H.Host in
    let e = g.E.Engine in
    record {
      taken : l.taken ≤ 67108864;
      room : length l.buffer ≡ 65536;
      reading : (start : g.row.H.Denot) (a : Opening) (state : MachineState) → e.stands l.fn.engine state → Serves h.disk h.printed h.clock h.might start a [] state l.fn.host
          → (input : List ℕ) → s.left l.fn.source ≡ Some input → Taken h.disk h.printed h.clock h.might start (e.stands l.engine) a input l.taken (s.left l.source) l.lines l.block l.host;
      so_far : ForSome (s.left l.fn.source) (λ input. HasTaken input l.taken (s.left l.source));
      counted : l.fn.steps ≤ l.steps;
      told : StaysTold (h.disk l.fn.host) (h.disk l.host);
      few : e.taken l.engine ≤ l.taken;
      ready : HasKeptState (e.stands l.engine) (h.disk l.host);
      read_still : s.read_faults l.source ≡ s.read_faults l.fn.source;
      print_still : h.print_faults l.host ≡ h.print_faults l.fn.host;
      disk_still : h.disk_faults l.host ≡ h.disk_faults l.fn.host;
      read_later : s.read_faults l.fn.source ≤ s.read_faults l.source;
      print_later : h.print_faults l.fn.host ≤ h.print_faults l.host;
    }

abbrev pub decreases-pieces : goal.decreases-pieces
decreases-pieces g l = 67108865 - l.taken
