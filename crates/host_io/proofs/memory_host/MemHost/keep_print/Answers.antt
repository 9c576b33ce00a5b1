use Rattle.std.proofs.Common.{◌++◌, refl, if◌then◌else◌}
use Rattle.host_io.specs.Memory.{given_of}
use Rattle.host_io.specs.Replay.{begin, replay}
use Rattle.host_io.specs.declared.call.Call.TheVariants.{Print}
use Rattle.host_io.proofs.Replayed.{keeps_next, keeps_print, on_ok, on_err}
use Rattle.host_io.proofs.memory_host.MemHost.keep_print.Goals as goal

pub invariant_of-self : goal.invariant_of-self
invariant_of-self c =
    let h = c.self.inside in
    let k = c.print_kept in
    let bytes = c.args.bytes.now in
    keeps_next k.result (given_of h.given h.areas) (given_of h.given h.areas) h.calls.items k.new.calls.items (Print bytes c.args.done)
    h.areas h.areas h.areas h.printed k.new.printed (if c.args.done then h.printed ++ bytes else h.printed)
    refl k.ensures.calls k.ensures.err_calls (on_ok k.result refl) (on_err k.result refl) k.ensures.printed k.ensures.err_printed c.self.invariant
    (keeps_print (replay (begin (given_of h.given h.areas)) h.calls.items) h.areas h.printed bytes c.args.done c.self.invariant)
