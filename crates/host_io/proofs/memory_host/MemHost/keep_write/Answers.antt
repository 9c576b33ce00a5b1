use Rattle.std.proofs.Common.{◌≤◌, ℕ, List, length, refl, sym, subst, if◌then◌else◌}
use Rattle.host_io.specs.Disk.{put, area_of}
use Rattle.host_io.specs.Memory.{HostState, state_of, given_of, bytes_of, with_bytes}
use Rattle.host_io.specs.Replay.{State, begin, replay}
use Rattle.host_io.specs.declared.call.Call.TheVariants.{Write}
use Rattle.host_io.proofs.Replayed.{area_reads, keeps_next, keeps_write, on_ok, on_err}
use Rattle.host_io.proofs.memory_host.MemHost.keep_write.Goals as goal

pub invariant_of-self-2 : goal.invariant_of-self-2
invariant_of-self-2 c =
    let h = c.self.inside in
    let k = c.write_kept in
    let bytes = c.args.bytes.now in
    let s : State = replay (begin (given_of h.given h.areas)) h.calls.items in
    let asked : c.args.at ≤ length (area_of s.disk c.args.area).reads = subst (λ (v : HostState). c.args.at ≤ length (area_of (state_of v).disk c.args.area).reads) (sym c.self.view_is) c.requires in
    let within : c.args.at ≤ length (bytes_of h.areas c.args.area) = subst (λ (b : List ℕ). c.args.at ≤ length b) (area_reads s h.areas h.printed c.args.area c.self.invariant) asked in
    keeps_next k.result (given_of h.given h.areas) (given_of c.keep_given.new.given k.new.areas) h.calls.items k.new.calls.items (Write c.args.area c.args.at bytes c.args.done)
    h.areas k.new.areas (if c.args.done then with_bytes h.areas c.args.area (put c.args.at bytes (bytes_of h.areas c.args.area)) else h.areas) h.printed h.printed h.printed
    (c.in_ok-keep_given.ensures.ok k.new.areas) k.ensures.calls k.ensures.err_calls k.ensures.areas k.ensures.err_areas (on_ok k.result refl) (on_err k.result refl) c.self.invariant
    (keeps_write s h.areas h.printed c.args.area c.args.at bytes c.args.done within c.self.invariant)
