use Rattle.std.proofs.Common.{◌≡◌, ◌<◌, ◌≤◌, ◌+◌, ◌^◌, ◌++◌, ℕ, List, length}
use Rattle.base_engine.specs.Calls.{HasKeptState, StaysTold}
use Rattle.run_loop.specs.Serving.{Opening}
use Rattle.run_loop.specs.Taking.{TakesBytes}
use Rattle.run_loop.proofs.pieces.take_piece.Given as goal

abbrev pub invariant-loop-rest : goal.invariant-loop-rest
invariant-loop-rest g l =
    let h = g.H.Host in
    let e = g.E.Engine in
    record {
      taken : (front : List ℕ) × (l.fn.piece ≡ front ++ l.rest) × ((start : g.row.H.Denot) (a : Opening) (read : List ℕ) → length read + length l.fn.piece < 2 ^ 63
          → TakesBytes h.disk h.printed h.clock h.might start (e.stands l.fn.engine) a read l.fn.lines l.fn.block l.fn.host
          → TakesBytes h.disk h.printed h.clock h.might start (e.stands l.engine) a (read ++ front) l.lines l.block l.host);
      few : e.taken l.engine + length l.rest ≤ e.taken l.fn.engine + length l.fn.piece;
      ready : HasKeptState (e.stands l.engine) (h.disk l.host);
      counted : l.fn.steps ≤ l.steps;
      told : StaysTold (h.disk l.fn.host) (h.disk l.host);
      print_still : h.print_faults l.host ≡ h.print_faults l.fn.host;
      disk_still : h.disk_faults l.host ≡ h.disk_faults l.fn.host;
      print_later : h.print_faults l.fn.host ≤ h.print_faults l.host;
    }

abbrev pub decreases-loop-rest : goal.decreases-loop-rest
decreases-loop-rest g l = length l.rest
