use Rattle.std.proofs.Common.{◌↔◌, Contains, IsTrue, List, subst, arith}
use Rattle.completion.proofs.KeptLemmas.{concept_kept}
use Rattle.dl_base.specs.declared.element.Elem.{Elem}
use Rattle.completion.proofs.tables.TableRowsTables.has_concept.Goals as goal

pub returns-in-Some : goal.returns-in-Some
returns-in-Some c =
    let kept = concept_kept c.args.self.now c.args.concept c.args.e in
    let says = subst (λ (es : List Elem). IsTrue c.has.result ↔ Contains es c.args.e) c.in-Some.ensures c.has.ensures in
    (λ yes. kept.1 (says.0 yes), λ there. says.1 (kept.0 there))

pub returns-in-None : goal.returns-in-None
returns-in-None c =
    let kept = concept_kept c.args.self.now c.args.concept c.args.e in
    (λ yes. absurd cc, λ there. absurd (let still = subst (λ (es : List Elem). Contains es c.args.e) c.in-None.ensures (kept.0 there) in omega (arith, still.1)))
