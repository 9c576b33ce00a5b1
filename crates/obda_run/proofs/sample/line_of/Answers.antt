use Rattle.std.proofs.Common.{◌≡◌, append_assoc, ◌∙◌}
use Rattle.std.specs.Prelude.{string_bytes}
use Rattle.obda_run.specs.Sample.{sample_line}
use Rattle.std.proofs.lemmas.Result.{IfOk-weaker}
use Rattle.obda_run.proofs.sample.line_of.Goals as goal

pub returns : goal.returns
returns c = IfOk-weaker c.format.result _ (λ line. string_bytes line ≡ sample_line c.args.size c.args.tally) (λ line is. is ∙ simp append_assoc) c.format.ensures.ok
