use Rattle.std.proofs.Common.{length, length-append, arith, ap}
use Rattle.std.specs.List.{flat_map}
use Rattle.sample_gen.specs.SampleScript.{change_lines, ended, first_lines, last_lines}
use Rattle.sample_gen.proofs.LengthLemmas.{changes_short}
use Rattle.sample_gen.proofs.script.sample.Goals as goal

pub returns-clause-short : goal.returns-clause-short
returns-clause-short c = omega (
  arith,
  changes_short c.args.size c.requires.some c.requires.limit,
  ap length c.from_vec.ensures,
  ap length c.in_ok-append_last_lines.ensures,
  ap length c.in_ok-append_changes.ensures,
  ap length c.in_ok-append_first_lines.ensures,
  length-append c.append_changes.new.script.items (flat_map ended last_lines),
  length-append c.append_first_lines.new.script.items (flat_map ended (change_lines c.args.size)),
  length-append c.in_ok-script.script.items (flat_map ended first_lines),
  ap length c.in_ok-script.ensures.items,
)
