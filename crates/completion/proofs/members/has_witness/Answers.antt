use Rattle.std.proofs.Common.{subst, sym, ◌∙◌}
use Rattle.std.specs.List.Sorted.{IsBinarySearchResult}
use Rattle.std.specs.declared.cmp.Ordering.{Ordering}
use Rattle.dl_base.specs.Tables.{witness_cmp}
use Rattle.dl_base.specs.declared.element.Witness.{Witness}
use Rattle.completion.proofs.OrderLemmas.{witness_order_is, witness_total, witness_same}
use Rattle.completion.proofs.SearchLemmas.{found}
use Rattle.completion.proofs.members.has_witness.Goals as goal

pub returns : goal.returns
returns c =
    let position = subst (λ (cmp : Witness → Witness → Ordering). IsBinarySearchResult (λ (y : Witness). cmp y c.args.witness) c.args.witnesses.now c.binary_search.result) witness_order_is c.binary_search.ensures.position in
    let says = found witness_cmp witness_total c.args.witnesses.now c.requires witness_same c.args.witness c.binary_search.result c.binary_search.ensures.bound position in
    (λ yes. says.0 (sym c.is_ok.ensures.value ∙ yes), λ there. c.is_ok.ensures.value ∙ says.1 there)
