use Rattle.std.proofs.Common.{◌≡◌, Option, sym, ◌∙◌, subst, refl, inl}
use Rattle.dl_base.specs.Clashes.{role_cmp}
use Rattle.dl_base.specs.declared.concept.Role.{Role}
use Rattle.dl_base.proofs.ClashLemmas.{role_total}
use Rattle.role_graph.proofs.OrderLemmas.{turned_round}
use Rattle.role_graph.specs.Order.{IsLesser}
use Rattle.role_graph.proofs.order.lesser.Goals as goal

pub returns-in_default : goal.returns-in_default
returns-in_default c =
    let o = c.args.rules.now in
    subst (λ (known : Option Role). IsLesser o known c.args.s c.in-Some.r) (sym c.in-Some.is)
    (inl (refl, turned_round (role_cmp o) (role_total o) c.in-Some.r c.args.s (λ less. c.in_default.not-Less (c.compared.ensures ∙ less))))
