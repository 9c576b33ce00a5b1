use Rattle.std.proofs.Common.{true≢false, sym, ◌∙◌, subst}
use Rattle.dl_base.specs.Rows.{Held}
use Rattle.clash_report.specs.After.{IsFirstAfter}
use Rattle.clash_report.proofs.ReportLemmas.{least_passed, least_behind, least_taken}
use Rattle.clash_report.proofs.report.with_individual.Goals as goal

pub returns-then-not-comes_first-clause-least : goal.returns-then-not-comes_first-clause-least
returns-then-not-comes_first-clause-least c = λ rows are kept least.
    least_behind c.args.o.now rows c.args.individuals.now c.args.n c.args.found (λ first. true≢false (sym (c.comes_first.ensures.1 first) ∙ c.if-not-comes_first.true)) least

pub returns-in-Some-clause-least : goal.returns-in-Some-clause-least
returns-in-Some-clause-least c = λ rows are kept least.
    let o = c.args.o.now in
    let names = c.args.individuals.now in
    let there = (are.individuals c.args.n).0 kept in
    least_taken o rows names c.args.n there.0 c.args.found c.in-Some.clash there.1 there.2 (c.comes_first.ensures.0 c.if-not-comes_first.false)
    (subst (IsFirstAfter o (Held o rows there.0)) c.in-Some.is (c.in_ok-clash.ensures.first names rows there.0 are there.1 there.2)) least

pub returns-in-None-clause-least : goal.returns-in-None-clause-least
returns-in-None-clause-least c = λ rows are kept least.
    let o = c.args.o.now in
    let names = c.args.individuals.now in
    let there = (are.individuals c.args.n).0 kept in
    least_passed o rows names c.args.n there.0 c.args.found there.1
    (subst (IsFirstAfter o (Held o rows there.0)) c.in-None.is (c.in_ok-clash.ensures.first names rows there.0 are there.1 there.2)) least
