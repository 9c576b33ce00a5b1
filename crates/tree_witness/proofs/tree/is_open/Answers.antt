use Rattle.std.proofs.Common.{◌≡◌, true, not, List, arith, sym, subst}
use Rattle.std.proofs.lemmas.Bool.{OnTrue_from}
use Rattle.std.proofs.lemmas.Bool.Decides.{nat_tests}
use Rattle.dl_base.specs.declared.concept.Role.{Role}
use Rattle.tree_witness.specs.Trees.{IsOpen, IsThere, CanStep}
use Rattle.tree_witness.proofs.tree.is_open.Goals as goal

pub returns-clause-open : goal.returns-clause-open
returns-clause-open c = OnTrue_from (not c.is_there.result) (IsOpen c.args.root c.args.tree.now c.args.above.now c.args.atom) (λ yes. (
  grind (arith, nat_tests),
  subst (λ (roles : List Role). CanStep c.args.root roles c.args.atom.role) c.items.ensures (c.can_step.ensures.0 (let no = c.if-not-can_step.false in grind (arith, nat_tests))),
  λ there.
      let is : c.is_there.result ≡ true = c.is_there.ensures.1 (subst (λ (roles : List Role). IsThere c.args.root c.args.tree.now roles c.args.atom) (sym c.items-2.ensures) there) in
      grind (arith, nat_tests),
))
