use Rattle.std.proofs.Common.{sym, ◌∙◌}
use Rattle.completion.specs.EdgeLists.{edge_cmp}
use Rattle.completion.proofs.OrderLemmas.{edge_total, edge_same}
use Rattle.completion.proofs.SearchLemmas.{found}
use Rattle.completion.proofs.edges.has_edge.Goals as goal

pub returns : goal.returns
returns c =
    let says = found edge_cmp edge_total c.args.edges.now c.requires edge_same c.args.edge c.binary_search.result c.binary_search.ensures.bound c.binary_search.ensures.position in
    (λ yes. says.0 (sym c.is_ok.ensures.value ∙ yes), λ there. c.is_ok.ensures.value ∙ says.1 there)
