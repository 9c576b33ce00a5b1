use Rattle.std.proofs.Common.{◌≡◌, true, Some, None, sym, ◌∙◌, subst}
use Rattle.listed_tables.proofs.GivenLemmas.{least_lower, least_stays}
use Rattle.dl_base.specs.Tables.{IsAbove}
use Rattle.dl_base.proofs.PlaceLemmas.{some_same}
use Rattle.listed_tables.proofs.sought.Sought.lesser.Goals as goal

pub returns-in-Some : goal.returns-in-Some
returns-in-Some c = λ rows h.
    least_lower c.args.self rows c.args.row.now c.args.after c.args.least c.in-Some.e c.lower.result
    (λ e. (λ same. (c.given_by.ensures e).0 (c.in-Some.is ∙ same), λ gives. sym c.in-Some.is ∙ (c.given_by.ensures e).1 gives))
    (c.is_above.ensures.0 c.if-is_above.true) c.lower.ensures h

pub returns-in_default : goal.returns-in_default
returns-in_default c = λ rows h.
    least_stays c.args.self rows c.args.row.now c.args.after c.args.least
    (λ e gives above. absurd (let is : c.is_above.result ≡ true = c.is_above.ensures.1 (subst (IsAbove c.args.after) (some_same (sym ((c.given_by.ensures e).1 gives) ∙ c.in-Some.is)) above) in cc)) h

pub returns-in_default-2 : goal.returns-in_default-2
returns-in_default-2 c = λ rows h.
    least_stays c.args.self rows c.args.row.now c.args.after c.args.least
    (λ e gives above. absurd (let is : c.given_by.result ≡ Some e = (c.given_by.ensures e).1 gives in cc)) h
