-- Laws of blocks.
use Rattle.std.specs.Prelude.{◌≡◌, List, Bool, Result}
use Rattle.dl_base.specs.Ontology.{Terminology}
use Rattle.axiom_reader.specs.Block.{Line, BlockGives}
use Rattle.axiom_reader.specs.declared.block.BlockError.{BlockError}

-- a block of these lines, which was ended or was cut off, is one thing
abbrev pub BlockGivesOnce : Type 0
BlockGivesOnce = (lines : List Line) (ended : Bool) (result other : Result Terminology BlockError) → BlockGives lines ended result → BlockGives lines ended other → result ≡ other
