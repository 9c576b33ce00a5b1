use Rattle.std.proofs.Common.{◌≡◌, inl, inr, sym, ◌∙◌, ap}
use Rattle.dl_base.specs.Derivation.{inverse}
use Rattle.dl_base.specs.Sets.{HasBasic}
use Rattle.dl_base.specs.declared.concept.Basic.TheVariants as basic
use Rattle.horn_closure.proofs.ClosureLemmas.{closure_held}
use Rattle.dl_base.specs.Derivation.{HeldBehind}
use Rattle.role_graph.proofs.closures.closed_behind.Goals as goal

pub returns-clause-closure : goal.returns-clause-closure
returns-clause-closure g c =
    let role : basic.Exists c.inverted.result ≡ basic.Exists (inverse c.args.r) = ap basic.Exists c.inverted.ensures in
    closure_held c.args.rules.now.inclusions (HasBasic c.add.new.self) (HeldBehind c.args.r)
    (λ b. (
      λ has. elim ((c.add.ensures b).0 has) [ inl is ↦ is ∙ role | inr before ↦ absurd (c.new-held.ensures b before) ],
      λ is. (c.add.ensures b).1 (inl (is ∙ sym role)),
    ))
    c.close.result c.close.ensures.closure
