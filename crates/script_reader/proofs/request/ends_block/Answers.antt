use Rattle.std.proofs.Common.{ℕ, List, ap, ◌∙◌}
use Rattle.std.specs.Str.{bytes_eq}
use Rattle.script_reader.proofs.EndRules.{ends_where}
use Rattle.script_reader.proofs.request.ends_block.Goals as goal

pub returns : goal.returns
returns c = ends_where c.args.line.now c.trimmed.result.now c.eq.result c.trimmed.ensures (c.eq.ensures ∙ ap (λ (l : List ℕ). bytes_eq c.trimmed.result.now l) c.as_slice.ensures)
