use Rattle.std.proofs.Common.{◌≡◌, ◌+◌, ◌<◌, ◌≤◌, List, length, slice_get, Option, Some, None, Vec, Global, refl, sym, ◌∙◌, ap, subst, arith}
use Rattle.dl_base.specs.declared.concept.Role.{Role}
use Rattle.role_graph.specs.declared.clash.RoleClash.{RoleClash}
use Rattle.role_graph.proofs.StepLemmas.{IsFirstLevel, first_all, first_as}
use Rattle.role_graph.proofs.NextLemmas.{first_step_found, first_step_none}
use Rattle.role_graph.proofs.levels.first_level.Goals as goal
use Rattle.role_graph.proofs.levels.first_level.Goals.{in-Some+in_ok-own_clash-in-Some+in_ok-push-in-Some+in_ok-push-in-Some-2, in-None+in_ok-push-in-None}

pub loop-place-preserved : goal.loop-place-preserved
loop-place-preserved c =
    let o = c.args.rules.now in
    let place = c.loop-place.place in
    let clashes = c.loop-place.clashes.items in
    let level = c.loop-place.level.items in
    let r = c.role_at-r.result in
    let closure = c.closed_behind_of.ensures o.inclusions (length o.roles) c.requires.closures in
    elim c.match-violated.branch [
      | in-Some+in_ok-own_clash-in-Some+in_ok-push-in-Some+in_ok-push-in-Some-2 w ↦
          let new = w.in_ok-own_clash-in-Some.field-0 in
          let more = first_step_found o c.roles-names.ensures.within clashes level place r c.closed_behind_of.result.now w.in-Some.inclusion new c.role_at-r.ensures.place closure
          (sym c.violated.ensures ∙ w.in-Some.is) w.in_ok-own_clash-in-Some.ensures.0 w.in_ok-own_clash-in-Some.ensures.1 c.loop-place.invariant in
          first_as o (place + 1) _ c.match-violated.clashes.items _ c.match-violated.level.items (ap (λ (v : Vec (Option RoleClash) Global). v.items) w.clashes-is ∙ w.in_ok-push-in-Some.ensures.items)
          (ap (λ (v : Vec Role Global). v.items) w.level-is ∙ w.in_ok-push-in-Some-2.ensures.items) more
      | in-None+in_ok-push-in-None w ↦
          let more = first_step_none o c.roles-names.ensures.within clashes level place r c.closed_behind_of.result.now c.role_at-r.ensures.place closure
          (sym c.violated.ensures ∙ w.in-None.is) c.loop-place.invariant in
          first_as o (place + 1) _ c.match-violated.clashes.items level c.match-violated.level.items (ap (λ (v : Vec (Option RoleClash) Global). v.items) w.clashes-is ∙ w.in_ok-push-in-None.ensures.items)
          (ap (λ (v : Vec Role Global). v.items) w.level-is) more
    ]

pub returns : goal.returns
returns c =
    let names : length c.roles-names.result.now ≡ length c.args.rules.now.roles = ap length c.roles-names.ensures.names in
    first_all c.args.rules.now c.loop-place.place c.loop-place.clashes.items c.loop-place.level.items c.loop-place.invariant
    (omega (arith, names, c.loop-place-test.false, c.loop-place.auto.place-end))
