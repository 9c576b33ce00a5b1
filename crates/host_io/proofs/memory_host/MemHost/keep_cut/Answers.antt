use Rattle.std.proofs.Common.{Bool, Ok, take, refl, sym, ◌∙◌, ap, if◌then◌else◌}
use Rattle.host_io.specs.Memory.{given_of, bytes_of, with_bytes}
use Rattle.host_io.specs.Replay.{State, begin, replay}
use Rattle.host_io.specs.declared.areas.Areas.{Areas}
use Rattle.host_io.specs.declared.call.Call.TheVariants.{Cut}
use Rattle.host_io.proofs.Replayed.{keeps_next, keeps_cut}
use Rattle.host_io.proofs.memory_host.MemHost.keep_cut.Goals as goal

pub invariant_of-self-then-done : goal.invariant_of-self-then-done
invariant_of-self-then-done c =
    let h = c.self.inside in
    let s : State = replay (begin (given_of h.given h.areas)) h.calls.items in
    let shorter : Areas = with_bytes h.areas c.args.area (take c.args.len (bytes_of h.areas c.args.area)) in
    keeps_next {T = Unit {0}} {E = Unit {0}} (Ok tt) (given_of h.given h.areas) (given_of c.keep_given.new.given c.cut.new.self) h.calls.items c.keep_call.new.calls.items (Cut c.args.area c.args.len c.args.done)
    h.areas c.cut.new.self (if c.args.done then shorter else h.areas) h.printed h.printed h.printed
    (c.in_ok-keep_given.ensures.ok c.cut.new.self) c.in_ok-keep_call.ensures.ok tt (c.cut.ensures ∙ sym (ap (λ (d : Bool). if d then shorter else h.areas) c.if-done.true)) tt refl tt c.self.invariant
    (keeps_cut s h.areas h.printed c.args.area c.args.len c.args.done c.self.invariant)

pub invariant_of-self-else-done : goal.invariant_of-self-else-done
invariant_of-self-else-done c =
    let h = c.self.inside in
    let s : State = replay (begin (given_of h.given h.areas)) h.calls.items in
    let shorter : Areas = with_bytes h.areas c.args.area (take c.args.len (bytes_of h.areas c.args.area)) in
    keeps_next {T = Unit {0}} {E = Unit {0}} (Ok tt) (given_of h.given h.areas) (given_of c.keep_given.new.given h.areas) h.calls.items c.keep_call.new.calls.items (Cut c.args.area c.args.len c.args.done)
    h.areas h.areas (if c.args.done then shorter else h.areas) h.printed h.printed h.printed
    (c.in_ok-keep_given.ensures.ok h.areas) c.in_ok-keep_call.ensures.ok tt (sym (ap (λ (d : Bool). if d then shorter else h.areas) c.if-done.false)) tt refl tt c.self.invariant
    (keeps_cut s h.areas h.printed c.args.area c.args.len c.args.done c.self.invariant)
