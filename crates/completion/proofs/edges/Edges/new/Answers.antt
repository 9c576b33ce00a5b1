use Rattle.std.proofs.Common.{◌↔◌, Contains, List, map, ◌∙◌, ap, subst}
use Rattle.completion.specs.EdgeLists.{turned}
use Rattle.completion.specs.declared.edges.Edge.{Edge}
use Rattle.completion.proofs.TargetLemmas.{both_ways}
use Rattle.completion.proofs.edges.Edges.new.Goals as goal

pub invariant_of-result : goal.invariant_of-result
invariant_of-result c =
    both_ways c.args.rows.items c.in_order-forth.result.items c.in_order-back.result.items c.in_order-forth.ensures.rising c.in_order-back.ensures.rising c.in_order-forth.ensures.same
    (subst (λ (xs : List Edge). (x : Edge) → Contains c.in_order-back.result.items x ↔ Contains xs x) (c.in_ok-turned_all.ensures ∙ ap (map turned) c.as_slice.ensures.value) c.in_order-back.ensures.same)
