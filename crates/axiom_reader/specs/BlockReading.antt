-- Reading a line of a block from left to right.
use Rattle.std.specs.Prelude.{ℕ, List, Ok}
use Rattle.grammar.specs.Reading.{Outcome, ◌>>=◌, blanks_at}
use Rattle.axiom_reader.specs.declared.tree.AxiomTree.{AxiomTree}
use Rattle.axiom_reader.specs.AxiomReading.{tree_at}

unfoldable pub line_at : List ℕ → Outcome AxiomTree
line_at text = do
  a ← blanks_at text
  tree ← tree_at a.1
  b ← blanks_at tree.1
  Ok (tree.0, b.1)
