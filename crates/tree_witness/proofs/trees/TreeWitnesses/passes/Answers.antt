use Rattle.std.proofs.Common.{List, All, IsTrue, ◌∙◌, ap, subst}
use Rattle.std.specs.Prelude.{◌↔◌}
use Rattle.tree_witness.specs.Trees.{PassesEntry, PassesBy}
use Rattle.tree_witness.specs.declared.trees.TreeEntry.{TreeEntry}
use Rattle.tree_witness.proofs.LawLemmas.{trees_decide}
use Rattle.tree_witness.proofs.trees.TreeWitnesses.passes.Goals as goal

-- the entries are gone through
told : (c : goal.After-all_pass) → IsTrue c.all_pass.result ↔ PassesBy c.args.self.now c.args.images.now
told c = subst (λ (es : List TreeEntry). IsTrue c.all_pass.result ↔ All (PassesEntry c.args.images.now) es) (c.items.ensures ∙ ap (λ t. t.entries) c.self.view_is) c.all_pass.ensures

pub returns-clause-passes : goal.returns-clause-passes
unfolding told
returns-clause-passes c = told c

pub returns-clause-lifts : goal.returns-clause-lifts
unfolding told
returns-clause-lifts c = λ s layout are. trees_decide s c.args.self.now c.args.images.now c.all_pass.result (told c) layout are
