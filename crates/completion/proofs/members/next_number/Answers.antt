use Rattle.std.proofs.Common.{rules}
use Rattle.std.specs.Ordering.{nat_cmp}
use Rattle.std.proofs.lemmas.Cmp.{nat_cmp_total}
use Rattle.completion.specs.Members.{is_number_passed}
use Rattle.completion.proofs.MembersLemmas.{number_down}
use Rattle.completion.proofs.SearchLemmas.{first_at, parted}
use Rattle.completion.proofs.members.next_number.Goals as goal

pub returns : goal.returns
returns c =
    let passed = is_number_passed c.args.after in
    first_at nat_cmp nat_cmp_total c.args.individuals.now c.requires passed c.first_near.result
    (c.first_near.ensures passed (λ x b told. search rules) (parted nat_cmp nat_cmp_total c.args.individuals.now c.requires passed (number_down c.args.after)))
