use Rattle.std.proofs.Common.{◌≡◌, ◌∙◌, ◌-◌, length, arith, refl, sym, ap, subst, take, drop, take-append-drop}
use Rattle.std.proofs.lemmas.List.{take_all, length-drop}
use Rattle.host_io.specs.Memory.{Keeps}
use Rattle.host_io.specs.Replay.{State, begin, replay}
use Rattle.host_io.specs.Stop.{IsStop}
use Rattle.host_io.specs.declared.areas.Areas.{Areas}
use Rattle.host_io.proofs.Stopped.{replay-append, stop_image}
use Rattle.host_io.proofs.stop.stop_inside.Goals as goal

pub returns-clause-stop : goal.returns-clause-stop
returns-clause-stop c =
    let before = c.args.before.now in
    let k = c.last_settled-settled.result in
    let s0 : State = begin c.args.given.now in
    let s1 : State = replay s0 (take k before) in
    let copied : c.in_ok-areas.areas ≡ c.args.given.now = c.in_ok-areas.ensures in
    let begun : Keeps s0 c.in_ok-areas.areas s0.printed = subst (λ (a : Areas). Keeps s0 a s0.printed) (sym copied) (record { first = refl; second = refl; shown = refl }) in
    let settled : Keeps s1 c.follow.new.areas s1.printed = c.in_ok-follow.ensures s0 begun in
    let rest = c.in_ok-sketches.ensures c.args.fill s1.disk (c.last_settled-settled.ensures.settled c.args.given.now) settled.first settled.second in
    let end = c.in_ok-follow_sketched.ensures s1 settled rest in
    let others = take (length before - k) (drop k before) in
    let others_are : others ≡ drop k before = take_all (length before - k) (drop k before) (omega (arith, length-drop k before)) in
    let all : replay s1 others ≡ replay s0 before = ap (replay s1) others_are ∙ sym (replay-append s0 (take k before) (drop k before)) ∙ ap (replay s0) (take-append-drop k before) in
    let noted = c.note.ensures (replay s1 others) end.0 end.1 in
    subst (λ (s : State). IsStop s c.args.call.now c.args.fill c.args.keep (record { first = c.in_ok-first.first; second = c.in_ok-second.second }) c.in_ok-printed.printed) all
    (record {
      first = c.in_ok-first.ensures _ noted.first;
      second = c.in_ok-second.ensures _ noted.second;
      output = c.in_ok-printed.ensures s0 refl ∙ ap (λ (s : State). s.printed) (sym all);
    })

pub returns-clause-image : goal.returns-clause-image
returns-clause-image c = stop_image c.args.given.now c.args.before.now c.args.call.now c.args.fill c.args.keep _ _ (returns-clause-stop c)
