-- Why a text is no name.
use Rattle.std.specs.Prelude.{ℕ, List}
use Rattle.dl_base.specs.declared.name.NameError.{NameError}
use Rattle.dl_base.specs.declared.name.NameError.TheVariants.{Bad, NoMemory}
use Rattle.grammar.specs.Grammar.{IsFaultAt}
use Rattle.dl_base.specs.Names.{name}

-- The place is counted from 0. Memory may run out at any text.
abbrev pub IsNameFault : List ℕ → NameError → Type 0
IsNameFault text (Bad at) = IsFaultAt name text at
IsNameFault text NoMemory = Unit {0}
