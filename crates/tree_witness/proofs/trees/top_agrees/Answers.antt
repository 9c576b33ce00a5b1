use Rattle.std.proofs.Common.{◌≡◌, [], arith, sym, ◌∙◌}
use Rattle.std.proofs.lemmas.Bool.Decides.{nat_tests}
use Rattle.std.proofs.lemmas.List.{nil_from_length}
use Rattle.dl_base.specs.declared.element.Elem.TheVariants as elem
use Rattle.tree_witness.proofs.LoopLemmas.{same_get}
use Rattle.tree_witness.proofs.trees.top_agrees.Goals as goal

pub returns-else-not-is_empty : goal.returns-else-not-is_empty
returns-else-not-is_empty c =
    let same = same_get c.args.images.now c.args.reached.now.term c.args.top (elem.Named 0) c.requires.reached c.requires.top in
    let none : c.items.result.now ≡ [] = nil_from_length c.items.result.now (let is = c.if-not-is_empty.false in let e = c.is_empty.ensures in grind (arith, nat_tests)) in
    (λ yes roles. same.0 (c.is_same.ensures.0 yes), λ agrees. c.is_same.ensures.1 (same.1 (agrees (sym c.items.ensures ∙ none))))
