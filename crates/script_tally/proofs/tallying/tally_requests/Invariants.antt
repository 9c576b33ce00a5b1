use Rattle.std.proofs.Common.{◌≡◌, ◌≤◌, ◌+◌, ◌++◌, [], List, length}
use Rattle.std.specs.Vec.Iter.{into_iter_items}
use Rattle.base_store.specs.History.{History}
use Rattle.script_reader.specs.declared.request.Request.{Request}
use Rattle.base_engine.specs.Calls.{HasKeptState, SecondStays, StaysTold}
use Rattle.script_tally.specs.Tallying.{Counted, CountsFit}
use Rattle.script_tally.proofs.tallying.tally_requests.Given as goal

abbrev pub invariant-loop-request : goal.invariant-loop-request
invariant-loop-request g l =
    let h = g.H.Host in
    let e = g.E.Engine in
    record {
      done : (front : List Request) × (l.fn.requests ≡ front ++ into_iter_items l.request-iterator) × ((start : History) → Counted (e.stands l.fn.engine) start [] (h.disk l.fn.host) (record { replies = 0; answers = 0; bytes = 0 })
          → Counted (e.stands l.engine) start front (h.disk l.host) l.tally);
      ready : HasKeptState (e.stands l.engine) (h.disk l.host);
      taken : e.taken l.engine + length (into_iter_items l.request-iterator) ≤ length l.fn.requests;
      replies : l.tally.replies + length (into_iter_items l.request-iterator) ≤ length l.fn.requests;
      within : CountsFit l.tally;
      told : StaysTold (h.disk l.fn.host) (h.disk l.host);
      second : SecondStays (h.disk l.fn.host) (h.disk l.host);
      counted : l.fn.steps ≤ l.steps;
      disk_still : h.disk_faults l.host ≡ h.disk_faults l.fn.host;
      printed : h.printed l.host ≡ h.printed l.fn.host;
      print_still : h.print_faults l.host ≡ h.print_faults l.fn.host;
    }
