use Rattle.std.proofs.Common.{◌≡◌, ℕ, Some, Ok, sym, ◌∙◌, ap, subst, arith}
use Rattle.std.specs.Prelude.{string_bytes}
use Rattle.std.proofs.lemmas.Fmt.{decimal_injective, parse-decimal}
use Rattle.obda_run.specs.Words.{IsSampleSize}
use Rattle.obda_run.specs.declared.command.Command.TheVariants as command
use Rattle.obda_run.proofs.command.sample_of.Goals as goal

pub returns-in_default-clause-sample : goal.returns-in_default-clause-sample
returns-in_default-clause-sample c = λ size. (
  λ is. absurd cc,
  λ is. absurd (c.in_default.not-Ok size (parse-decimal 32 size c.as_str.result.now c.parse.result (omega (arith, is.most)) (omega (arith, is.most)) (c.as_str.ensures.value ∙ is.text) c.parse.ensures.value.0)),
)

pub returns-then-is_sample_size-clause-sample : goal.returns-then-is_sample_size-clause-sample
returns-then-is_sample_size-clause-sample c =
    let its = c.is_sample_size.ensures.0 c.if-is_sample_size.true in
    λ size. (
      λ is. (let same : c.in-Ok.size ≡ size = cc in subst (λ (n : ℕ). IsSampleSize n (string_bytes c.args.word.now)) same its),
      λ is. ap (λ (n : ℕ). Some (command.Sample n)) (decimal_injective c.in-Ok.size size (omega (arith, its.most)) (omega (arith, is.most)) (sym its.text ∙ is.text)),
    )

pub returns-else-is_sample_size-clause-sample : goal.returns-else-is_sample_size-clause-sample
returns-else-is_sample_size-clause-sample c = λ size. (
  λ is. absurd cc,
  λ is.
      let reads : c.parse.result ≡ Ok size = parse-decimal 32 size c.as_str.result.now c.parse.result (omega (arith, is.most)) (omega (arith, is.most)) (c.as_str.ensures.value ∙ is.text) c.parse.ensures.value.0 in
      let okay = c.in-Ok.is in
      let same : size ≡ c.in-Ok.size = cc in
      let yes = c.is_sample_size.ensures.1 (subst (λ (n : ℕ). IsSampleSize n (string_bytes c.args.word.now)) same is) in
      let no = c.if-is_sample_size.false in
      absurd cc,
)
