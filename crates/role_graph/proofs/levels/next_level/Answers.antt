use Rattle.std.proofs.Common.{◌≡◌, ◌+◌, ◌*◌, ◌<◌, ◌≤◌, List, length, slice_get, Option, Some, None, Vec, Global, refl, sym, ◌∙◌, ap, subst, arith}
use Rattle.dl_base.specs.declared.concept.Role.{Role}
use Rattle.role_graph.specs.declared.clash.RoleClash.{RoleClash}
use Rattle.role_graph.specs.Levels.{IsLevel}
use Rattle.role_graph.specs.Order.{IsLeastRole}
use Rattle.role_graph.proofs.StepLemmas.{IsHalfway, half_none, half_all, halfway_as}
use Rattle.role_graph.proofs.NextLemmas.{level_all, level_small, known_now, step_known, step_none, step_found, empty_slot, full_slot}
use Rattle.role_graph.proofs.levels.next_level.Goals as goal
use Rattle.role_graph.proofs.levels.next_level.Goals.{then-is_none+in-Some+in_ok-clash+in_ok-push, then-is_none+in_default, else-is_none}

pub loop-place-init : goal.loop-place-init
loop-place-init c = λ before.
    subst (IsHalfway c.args.rules.now before.depth c.args.clashes.now 0 c.args.clashes.now) (sym c.new-next.ensures.items) (half_none c.args.rules.now before.depth c.args.clashes.now)

pub least_derived-requires : goal.least_derived-requires
least_derived-requires c = level_all c.args.rules.now c.roles-names.ensures.within c.args.clashes.now c.args.level.now c.requires.level

pub clash_of-requires : goal.clash_of-requires
clash_of-requires c =
    let o = c.args.rules.now in
    let before = c.requires.level in
    let has = c.in-Some.ensures.0.0 in
    record {
      placed = level_small o c.roles-names.ensures.within c.args.clashes.now c.args.level.now before c.in-Some.s has;
      known = known_now o c.roles-names.ensures.within c.args.clashes.now c.args.level.now before c.loop-place.place c.loop-place.clashes c.loop-place.next.items
          (c.loop-place.invariant before) c.in-Some.s has;
    }

pub loop-place-preserved : goal.loop-place-preserved
loop-place-preserved c = λ before.
    let o = c.args.rules.now in
    let within = c.roles-names.ensures.within in
    let old = c.args.clashes.now in
    let level = c.args.level.now in
    let place = c.loop-place.place in
    let now = c.loop-place.clashes in
    let next = c.loop-place.next.items in
    let r = c.role_at-r.result in
    let is = c.loop-place.invariant before in
    let names : length c.roles-names.result.now ≡ length c.args.rules.now.roles = ap length c.roles-names.ensures.names in
    let inside : place < length now = omega (arith, names, is.each, before.each, c.loop-place-test.true) in
    let placed : r.name < length o.roles = omega (arith, names, c.role_at-r.ensures.placed, c.loop-place-test.true) in
    elim c.if-is_none.branch [
      | then-is_none+in-Some+in_ok-clash+in_ok-push w ↦
          let closure = w.closed_behind_of.ensures o.inclusions (length o.roles) c.requires.closures in
          let none = empty_slot now place c.index-clashes-place.result c.is_none.result inside c.is_none.ensures w.if-is_none.true in
          let more = step_found o within old level before place now next is r c.role_at-r.ensures.place placed w.closed_behind_of.result.now closure none w.in-Some.s w.clash_of.result.now w.in_ok-clash.clash
          w.in-Some.ensures w.clash_of.ensures w.in_ok-clash.ensures.0 w.in_ok-clash.ensures.1 in
          halfway_as o before.depth old (place + 1) _ c.if-is_none.clashes _ c.if-is_none.next.items w.clashes-is (ap (λ (v : Vec Role Global). v.items) w.next-is ∙ w.in_ok-push.ensures.items) more
      | then-is_none+in_default w ↦
          let closure = w.closed_behind_of.ensures o.inclusions (length o.roles) c.requires.closures in
          let none = empty_slot now place c.index-clashes-place.result c.is_none.result inside c.is_none.ensures w.if-is_none.true in
          let stays = step_none o within old level before place now next is r c.role_at-r.ensures.place placed w.closed_behind_of.result.now closure none w.in_default.ensures in
          halfway_as o before.depth old (place + 1) now c.if-is_none.clashes next c.if-is_none.next.items w.clashes-is (ap (λ (v : Vec Role Global). v.items) w.next-is) stays
      | else-is_none w ↦
          let known = full_slot now place c.index-clashes-place.result c.is_none.result inside c.is_none.ensures w.if-is_none.false in
          let stays = step_known o within old level before place now next is r c.role_at-r.ensures.place known.0 known.1 in
          halfway_as o before.depth old (place + 1) now c.if-is_none.clashes next c.if-is_none.next.items w.clashes-is (ap (λ (v : Vec Role Global). v.items) w.next-is) stays
    ]

pub returns-clause-level : goal.returns-clause-level
returns-clause-level c =
    let before = c.requires.level in
    half_all c.args.rules.now c.args.clashes.now c.args.level.now before c.loop-place.place c.loop-place.clashes c.loop-place.next.items (c.loop-place.invariant before)
    (let names : length c.roles-names.result.now ≡ length c.args.rules.now.roles = ap length c.roles-names.ensures.names in omega (arith, names, c.loop-place-test.false))

pub returns-clause-fewer : goal.returns-clause-fewer
returns-clause-fewer c = (c.loop-place.invariant c.requires.level).fewer
