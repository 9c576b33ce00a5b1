use Rattle.std.proofs.Common.{◌≡◌, Some, None, sym, ◌∙◌, subst}
use Rattle.dl_base.specs.Rows.{Held}
use Rattle.horn_closure.specs.Closure.{IsClosure}
use Rattle.clash_report.proofs.report.clash_at.Goals as goal

pub returns-in-Some-clause-first : goal.returns-in-Some-clause-first
returns-in-Some-clause-first c = λ names rows a are at individual.
    let o = c.args.o.now in
    let x = c.in-Some.ensures in
    c.first_at.ensures.first rows a (subst (IsClosure o.inclusions (Held o rows a)) (sym x.2) (are.derived c.args.n a x.0 at x.1))

pub returns-in-None-clause-first : goal.returns-in-None-clause-first
returns-in-None-clause-first c = λ names rows a are at individual.
    absurd (let kept = (are.individuals c.args.n).1 (a, at, individual) in let e : Some kept.0 ≡ None = sym kept.1 ∙ c.in-None.ensures in cc)
