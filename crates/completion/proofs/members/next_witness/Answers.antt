use Rattle.std.proofs.Common.{rules}
use Rattle.dl_base.specs.Tables.{witness_cmp}
use Rattle.completion.proofs.OrderLemmas.{witness_total}
use Rattle.completion.specs.Members.{is_witness_passed}
use Rattle.completion.proofs.MembersLemmas.{witness_down}
use Rattle.completion.proofs.SearchLemmas.{first_at, parted}
use Rattle.completion.proofs.members.next_witness.Goals as goal

pub returns : goal.returns
returns c =
    let passed = is_witness_passed c.args.after in
    first_at witness_cmp witness_total c.args.witnesses.now c.requires passed c.first_near.result
    (c.first_near.ensures passed (λ x b told. search rules) (parted witness_cmp witness_total c.args.witnesses.now c.requires passed (witness_down c.args.after)))
