use Rattle.std.proofs.Common.{◌≡◌, ◌<◌, ◌++◌, map}
use Rattle.std.specs.List.{flat_map, range_with_len}
use Rattle.sample_gen.specs.SampleScript.{chosen, chosen_line, ended}
use Rattle.sample_gen.proofs.script.append_changes.Given as goal

abbrev pub invariant-loop-number : goal.invariant-loop-number
invariant-loop-number l = record {
  small : l.chosen < 65537;
  last : l.chosen ≡ chosen l.size l.number;
  written : l.script.items ≡ l.fn.script.items ++ flat_map ended (map (chosen_line l.size) (range_with_len 1 l.number));
}
