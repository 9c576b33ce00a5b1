use Rattle.std.proofs.Common.{◌≡◌, ◌+◌, false, true≢false, sym, ◌∙◌, subst, take, List, [], ◌∷◌, ◌++◌, get_or}
use Rattle.std.proofs.lemmas.List.{take_more}
use Rattle.dl_base.specs.Sets.{HasBasic}
use Rattle.dl_base.specs.declared.concept.Basic.TheVariants as basic
use Rattle.dl_base.specs.declared.concept.Role.{Role}
use Rattle.role_graph.proofs.OrderLemmas.{LeastSoFar, least_passed, least_found}
use Rattle.role_graph.proofs.order.least_derived.Goals as goal
use Rattle.role_graph.proofs.order.least_derived.Goals.{then-has, else-has}

pub loop-s-preserved : goal.loop-s-preserved
loop-s-preserved c =
    let o = c.args.rules.now in
    let roles = c.args.roles.now in
    let P = λ (s : Role). HasBasic c.args.closed.now.derived (basic.Exists s) in
    let front = take c.loop-s.s-index roles in
    let s = get_or roles c.loop-s.s-index (record { name = 0; inverse = false }) in
    let more = take_more roles c.loop-s.s-index (record { name = 0; inverse = false }) c.loop-s-test.true in
    elim c.if-has.branch [
      | then-has w ↦ subst (λ (x : List Role). LeastSoFar o P x c.if-has.least) (sym more) (subst (LeastSoFar o P (front ++ s ∷ [])) (sym w.least-is)
          (least_found o P front s c.loop-s.least w.lesser.result (c.has.ensures.0 w.if-has.true) w.lesser.ensures c.loop-s.invariant))
      | else-has w ↦ subst (λ (x : List Role). LeastSoFar o P x c.if-has.least) (sym more) (subst (LeastSoFar o P (front ++ s ∷ [])) (sym w.least-is)
          (least_passed o P front s c.loop-s.least (λ p. true≢false (sym (c.has.ensures.1 p) ∙ w.if-has.false)) c.loop-s.invariant))
    ]
