use Rattle.std.proofs.Common.{arith}
use Rattle.std.proofs.lemmas.Bool.Decides.{nat_tests}
use Rattle.clash_report.proofs.tests.are_named.Goals as goal

pub returns-in-None : goal.returns-in-None
returns-in-None c = λ three n kept.
    let above = c.in-None.ensures n kept in
    let many = c.len.ensures.len in
    grind (arith, nat_tests, above, many, three)
