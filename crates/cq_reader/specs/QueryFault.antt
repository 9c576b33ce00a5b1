-- What a text means as a query, and why it is refused.
use Rattle.std.specs.Prelude.{◌≡◌, ℕ, ◌+◌, List}
use Rattle.grammar.specs.Grammar.{IsFaultAt}
use Rattle.dl_base.specs.Query.{Question}
use Rattle.cq_reader.specs.declared.query.QueryError.{QueryError}
use Rattle.cq_reader.specs.declared.query.QueryError.TheVariants.{Syntax, TooLarge, Unsafe, NoMemory}
use Rattle.cq_reader.specs.QueryText.{query}
use Rattle.cq_reader.specs.QueryLimits.{IsSmall, IsTooLarge, IsFirstUnbound}

-- the text is the query's, and no other query's
pub record MeansQuery (text : List ℕ) (q : Question) : Type 0 where
  pub is : query text q
  pub only : (other : Question) → query text other → other ≡ q

-- why a query that the grammar has is refused: first because it is too large
abbrev pub IsUnfit : Question → QueryError → Type 0
IsUnfit q (Syntax place) = ⊥
IsUnfit q TooLarge = IsTooLarge q
IsUnfit q (Unsafe v) = IsSmall q × IsFirstUnbound q v
IsUnfit q NoMemory = Unit {0}

-- Why a text is refused: first because it is no query's. The place is counted from 1. Memory may run out at any text.
abbrev pub IsRefused : List ℕ → QueryError → Type 0
IsRefused text (Syntax place) = (at : ℕ) × (place ≡ at + 1) × IsFaultAt query text at
IsRefused text TooLarge = (q : Question) × MeansQuery text q × IsTooLarge q
IsRefused text (Unsafe v) = (q : Question) × MeansQuery text q × IsSmall q × IsFirstUnbound q v
IsRefused text NoMemory = Unit {0}
