use Rattle.std.proofs.Common.{◌≡◌, ◌↔◌, ◌⊎◌, ℕ, arith, length, refl, subst, Bool, List}
use Rattle.query_shape.specs.Shape.{IsTermOf}
use Rattle.join_plan.specs.Choice.{IsCheapest, IsMarked}
use Rattle.join_plan.specs.declared.steps.Step.{Step}
use Rattle.join_plan.proofs.PlanLemmas.{has_step, written_back}
use Rattle.join_plan.proofs.planner.plan.Goals as goal

pub loop-left-preserved : goal.loop-left-preserved
loop-left-preserved g c =
    let best : IsCheapest c.loop-left.left.items (length c.loop-left.left.items) c.loop-left.known.items c.cheapest-choice.result =
    rw (c.as_slice.ensures.value, c.as_slice-in-loop-left.ensures.value) at c.cheapest-choice.ensures in
    let count : length c.mark.new.known ≡ length c.loop-left.known.items = rw c.as_mut_slice.ensures.value at c.mark.ensures.len in
    let marks : (k : ℕ) → IsMarked c.mark.new.known k ↔ (IsMarked c.loop-left.known.items k ⊎ IsTermOf k c.remove-chosen.result.atom) =
    subst (λ (old : List Bool). (k : ℕ) → IsMarked c.mark.new.known k ↔ (IsMarked old k ⊎ IsTermOf k c.remove-chosen.result.atom)) c.as_mut_slice.ensures.value c.mark.ensures.each in
    let step : Step = record { atom = c.remove-chosen.result.place; path = c.cheapest-choice.result.offer.path } in
    let more = has_step (g.T.Tables.rows c.args.t.now) c.args.s.now c.loop-left.left.items c.loop-left.known.items c.mark.new.known c.loop-left.steps.items c.cheapest-choice.result c.remove-chosen.result step
    c.loop-left.invariant.draft c.loop-left.invariant.sized c.loop-left.invariant.least best c.remove-chosen.ensures.value refl refl count marks in
    let back = written_back c.loop-left.known.len c.mark.new.known c.loop-left.known.items (omega arith) in
    rw (back, c.in_ok-push.ensures.items, c.remove-chosen.ensures.items) (record { draft = more.draft; sized = more.sized; least = more.least })
