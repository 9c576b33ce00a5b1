use Rattle.std.proofs.Common.{refl, subst, length, List}
use Rattle.std.proofs.lemmas.Bool.{OnFalse_at}
use Rattle.dl_base.proofs.PlaceLemmas.{member_at}
use Rattle.dl_base.specs.declared.concept.Role.{Role}
use Rattle.clash_report.specs.Report.{AreNamedRoles, IsLeastFound}
use Rattle.clash_report.proofs.ReportLemmas.{reported_none, reported_some}
use Rattle.clash_report.proofs.report.first_clash.Goals as goal

pub returns-then-not-has_inclusion_to_nothing : goal.returns-then-not-has_inclusion_to_nothing
returns-then-not-has_inclusion_to_nothing c = λ rows are place clash.
    let at = clash.violates in
    absurd (OnFalse_at c.if-not-has_inclusion_to_nothing.true c.has_inclusion_to_nothing.ensures at.inclusion (member_at c.args.o.now.inclusions at.before at.inclusion at.at) at.nothing)

pub returns-in-None : goal.returns-in-None
returns-in-None c = λ rows are.
    let o = c.args.o.now in
    let names = c.args.individuals.now in
    reported_none o rows names are.numbered (subst (IsLeastFound o rows names (length names)) c.in-None.is (c.in_ok-least_found.ensures.least rows are))

pub returns-in_ok-path-in-Some : goal.returns-in_ok-path-in-Some
returns-in_ok-path-in-Some c = λ rows are.
    let o = c.args.o.now in
    let names = c.args.individuals.now in
    let found = c.in-Some.found in
    reported_some o rows names are.numbered found (record { inclusion = found.clash.inclusion; name = c.in_ok-name-in-Some.name; path = c.in_ok-path-in-Some.path }) c.name.result.now
    (subst (IsLeastFound o rows names (length names)) c.in-Some.is (c.in_ok-least_found.ensures.least rows are)) c.name.ensures c.in_ok-name-in-Some.ensures
    (subst (λ (p : List Role). AreNamedRoles o p c.in_ok-path-in-Some.path) c.items.ensures c.in_ok-path-in-Some.ensures) refl
