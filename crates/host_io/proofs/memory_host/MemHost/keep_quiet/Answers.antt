use Rattle.std.proofs.Common.{refl}
use Rattle.host_io.specs.Memory.{given_of}
use Rattle.host_io.specs.declared.call.Call.TheVariants.{Quiet}
use Rattle.host_io.proofs.Replayed.{keeps_same}
use Rattle.host_io.proofs.memory_host.MemHost.keep_quiet.Goals as goal

pub invariant_of-self : goal.invariant_of-self
invariant_of-self c =
    let h = c.self.inside in
    keeps_same c.keep_call.result (given_of h.given h.areas) (given_of h.given h.areas) h.calls.items c.keep_call.new.calls.items Quiet h.areas h.printed refl c.keep_call.ensures.ok c.keep_call.ensures.err c.self.invariant c.self.invariant
