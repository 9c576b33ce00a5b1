-- Why a text is no axiom.
use Rattle.std.specs.Prelude.{◌≡◌, ℕ, ◌+◌, List}
use Rattle.grammar.specs.Grammar.{IsFaultAt}
use Rattle.axiom_reader.specs.declared.axiom.AxiomError.{AxiomError}
use Rattle.axiom_reader.specs.declared.axiom.AxiomError.TheVariants.{Syntax, NoMemory}
use Rattle.axiom_reader.specs.AxiomGrammar.{axiom_text}

-- The place is counted from 1. Memory may run out at any text.
abbrev pub IsAxiomFault : List ℕ → AxiomError → Type 0
IsAxiomFault text (Syntax place) = (at : ℕ) × (place ≡ at + 1) × IsFaultAt axiom_text text at
IsAxiomFault text NoMemory = Unit {0}
