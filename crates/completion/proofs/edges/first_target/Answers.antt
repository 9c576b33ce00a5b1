use Rattle.std.proofs.Common.{rules}
use Rattle.completion.specs.EdgeLists.{edge_cmp, target_passed}
use Rattle.completion.proofs.OrderLemmas.{edge_total}
use Rattle.completion.proofs.SearchLemmas.{first_at, parted, target_down}
use Rattle.completion.proofs.edges.first_target.Goals as goal

pub returns : goal.returns
returns c =
    let passed = target_passed c.args.role c.args.from c.args.after in
    first_at edge_cmp edge_total c.args.edges.now c.requires passed c.first_near.result
    (c.first_near.ensures passed (λ x b told. search rules) (parted edge_cmp edge_total c.args.edges.now c.requires passed (target_down c.args.role c.args.after c.args.from)))
