use Rattle.std.proofs.Common.{sym, ◌∙◌}
use Rattle.std.specs.Ordering.{nat_cmp}
use Rattle.std.proofs.lemmas.Cmp.{nat_cmp_total}
use Rattle.dl_base.proofs.RisingLemmas.{nat_same}
use Rattle.completion.proofs.SearchLemmas.{found}
use Rattle.completion.proofs.members.has_number.Goals as goal

pub returns : goal.returns
returns c =
    let says = found nat_cmp nat_cmp_total c.args.individuals.now c.requires nat_same c.args.individual c.binary_search.result c.binary_search.ensures.bound c.binary_search.ensures.position in
    (λ yes. says.0 (sym c.is_ok.ensures.value ∙ yes), λ there. c.is_ok.ensures.value ∙ says.1 there)
