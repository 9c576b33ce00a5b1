use Rattle.std.proofs.Common.{◌≡◌, inr, ⊎_elim, ℕ, List, Some, String, Global, map, refl, sym, ◌∙◌, ap, subst}
use Rattle.std.specs.Prelude.{string_bytes}
use Rattle.obda_run.specs.Sample.{SampleEnds}
use Rattle.obda_run.specs.Words.{NamesCommand, NamesSample}
use Rattle.obda_run.specs.declared.command.Command.{Command}
use Rattle.obda_run.specs.declared.command.Command.TheVariants as command
use Rattle.obda_run.proofs.SampleLemmas.{never_usage}
use Rattle.obda_run.proofs.StatusLemmas.{answered_as, damaged_as, refused_as, was_damaged}
use Rattle.obda_run.proofs.serving.serve.Goals as goal

pub returns-in-Some-Answer-clause-refuses : goal.returns-in-Some-Answer-clause-refuses
returns-in-Some-Answer-clause-refuses g c = λ code line words input told few document.
    refused_as code line c.of_document.result c.answer.result c.of_document.ensures.of (c.answer.ensures.refuses code line input told few document)

pub returns-in-Some-Answer-clause-answers : goal.returns-in-Some-Answer-clause-answers
returns-in-Some-Answer-clause-answers g c = λ o rows q words input told few document.
    answered_as c.of_document.result c.answer.result c.of_document.ensures.of (c.answer.ensures.answers o rows q input told few document)

pub returns-in-Some-Run-clause-run : goal.returns-in-Some-Run-clause-run
returns-in-Some-Run-clause-run g c = λ words input told d disk before printed h keeps.
    (c.run_script.result, c.of_script.ensures.of, c.run_script.ensures.run input told d disk before printed h keeps)

pub returns-in-Some-Run-clause-completes : goal.returns-in-Some-Run-clause-completes
returns-in-Some-Run-clause-completes g c = λ words input told d disk before printed h keeps few.
    (c.run_script.result, c.of_script.ensures.of, c.run_script.ensures.completes input told d disk before printed h keeps few)

pub returns-in-Some-Run-clause-damages : goal.returns-in-Some-Run-clause-damages
returns-in-Some-Run-clause-damages g c = λ words d disk at damaged.
    let found = c.run_script.ensures.damages d disk at damaged in
    (damaged_as at c.of_script.result c.run_script.result c.of_script.ensures.of found.0, found.1, found.2, found.3)

pub returns-in-Some-Run-clause-damaged : goal.returns-in-Some-Run-clause-damaged
returns-in-Some-Run-clause-damaged g c = λ area at is. c.run_script.ensures.damaged area at (was_damaged area at c.run_script.result (sym c.of_script.ensures.of ∙ is))

pub run_sample-requires-clause-least : goal.run_sample-requires-clause-least
run_sample-requires-clause-least g c = let names = (c.command_of.ensures.sample c.in-Some-Sample.size).0 (c.in-Some-Sample.is ∙ ap Some c.in-Some-Sample.field-0-is) in names.2.least

pub run_sample-requires-clause-most : goal.run_sample-requires-clause-most
run_sample-requires-clause-most g c = let names = (c.command_of.ensures.sample c.in-Some-Sample.size).0 (c.in-Some-Sample.is ∙ ap Some c.in-Some-Sample.field-0-is) in names.2.most

pub returns-in-Some-Sample-clause-usage : goal.returns-in-Some-Sample-clause-usage
returns-in-Some-Sample-clause-usage g c =
    let size = c.in-Some-Sample.size in
    let named = (c.command_of.ensures.sample size).0 (c.in-Some-Sample.is ∙ ap Some c.in-Some-Sample.field-0-is) in
    let names = subst (λ (words : List (String Global)). NamesSample size (map string_bytes words)) c.deref.ensures.value named in (
      λ usage. absurd (never_usage c.run_sample.result size _ _ c.run_sample.ensures.sample usage),
      λ none. absurd (none (inr (inr (size, names)))),
    )

pub returns-in-Some-Sample-clause-sample : goal.returns-in-Some-Sample-clause-sample
returns-in-Some-Sample-clause-sample g c = λ size names.
    let found = c.in-Some-Sample.is ∙ ap Some c.in-Some-Sample.field-0-is in
    let asked = (c.command_of.ensures.sample size).1 (subst (λ (words : List (String Global)). NamesSample size (map string_bytes words)) (sym c.deref.ensures.value) names) in
    let same : c.in-Some-Sample.size ≡ size = cc in
    subst (λ (n : ℕ). SampleEnds c.run_sample.result n (g.H.Host.printed c.args.host.now) (g.H.Host.printed c.run_sample.new.host)) same c.run_sample.ensures.sample

pub returns-in-None-clause-usage : goal.returns-in-None-clause-usage
returns-in-None-clause-usage g c =
    let never : (x : Command) → c.command_of.result ≡ Some x → ⊥ = λ x found. (let is = c.in-None.is in cc) in (
      λ usage names. ⊎_elim (λ words. never command.Answer (c.command_of.ensures.answer.1 words))
          (⊎_elim (λ words. never command.Run (c.command_of.ensures.run.1 words)) (λ sized. never (command.Sample sized.0) ((c.command_of.ensures.sample sized.0).1 sized.1)))
          (subst (λ (words : List (String Global)). NamesCommand (map string_bytes words)) (sym c.deref.ensures.value) names),
      λ none. refl,
    )

pub returns-in-None-clause-sample : goal.returns-in-None-clause-sample
returns-in-None-clause-sample g c = λ size names.
    let found = (c.command_of.ensures.sample size).1 (subst (λ (words : List (String Global)). NamesSample size (map string_bytes words)) (sym c.deref.ensures.value) names) in
    let is = c.in-None.is in
    absurd cc
