-- The lines of a document, as its format writes them.
use Rattle.std.specs.Prelude.{◌≡◌, ℕ, ◌≤◌, List, [], ◌∷◌, ◌++◌, length, codes, true, false, IsTrue}
use Rattle.std.specs.List.{AllByRecursion}
use Rattle.grammar.specs.Bytes.{is_blank}
use Rattle.grammar.specs.Grammar.{Grammar, ◌>>=◌, ◌>>◌, means, ◌∣◌, literal, bytes_of_kind}
use Rattle.grammar.specs.Blanks.{some_blanks}
use Rattle.dl_base.specs.Names.{name}
use Rattle.dl_base.specs.Query.{Question, IsQuery}
use Rattle.dl_base.specs.declared.row.NamedRow.{NamedRow}
use Rattle.dl_base.specs.declared.row.NamedRow.TheVariants as row
use Rattle.axiom_reader.specs.AxiomGrammar.{axiom_text}
use Rattle.axiom_reader.specs.AxiomMeaning.{meaning}
use Rattle.cq_reader.specs.QueryText.{query}
use Rattle.cq_reader.specs.QueryLimits.{IsSmall, IsTooLarge, IsFirstUnbound}
use Rattle.script_reader.specs.declared.doc_line.DocLine.{DocLine}
use Rattle.script_reader.specs.declared.doc_line.DocLine.TheVariants as line
use Rattle.script_reader.specs.declared.doc_line.CommandError.{CommandError}
use Rattle.script_reader.specs.declared.doc_line.CommandError.TheVariants as fault

-- ---- blanks before and behind

abbrev pub AreBlank : List ℕ → Type 0
AreBlank text = AllByRecursion (λ c. IsTrue (is_blank c)) text

abbrev pub BeginsUnblank : List ℕ → Type 0
BeginsUnblank text = (c : ℕ) (more : List ℕ) → text ≡ c ∷ more → is_blank c ≡ false

abbrev pub EndsUnblank : List ℕ → Type 0
EndsUnblank text = (front : List ℕ) (c : ℕ) → text ≡ front ++ c ∷ [] → is_blank c ≡ false

-- what stands before the last blanks
pub record IsWithoutBlanksBehind (text core : List ℕ) : Type 0 where
  pub behind : List ℕ
  pub parts : text ≡ core ++ behind
  pub blank : AreBlank behind
  pub last : EndsUnblank core

-- what stands between the first blanks and the last ones
pub record IsTrimmed (text core : List ℕ) : Type 0 where
  pub front : List ℕ
  pub rest : List ℕ
  pub parts : text ≡ front ++ rest
  pub blank : AreBlank front
  pub first : BeginsUnblank core
  pub core_is : IsWithoutBlanksBehind rest core

-- ---- what stands between

-- two names are a concept and an individual, three are a role and two individuals
abbrev pub concept_row_text : Grammar NamedRow
concept_row_text = do
  concept ← name
  some_blanks
  individual ← name
  means (row.Concept concept individual)

abbrev pub role_row_text : Grammar NamedRow
role_row_text = do
  role ← name
  some_blanks
  from ← name
  some_blanks
  to ← name
  means (row.Role role from to)

abbrev pub row_text : Grammar NamedRow
row_text = concept_row_text ∣ role_row_text

-- `#` and any bytes
abbrev pub comment : Grammar DocLine
comment = do
  literal (codes "#")
  bytes_of_kind (λ c. true)
  means line.Blank

abbrev pub axiom_line : Grammar DocLine
axiom_line = do
  literal (codes "axiom")
  some_blanks
  tree ← axiom_text
  means (line.Axiom (meaning tree))

abbrev pub fact_line : Grammar DocLine
fact_line = do
  literal (codes "fact")
  some_blanks
  row ← row_text
  means (line.Fact row)

abbrev pub ask_line : Grammar DocLine
ask_line = do
  literal (codes "ask")
  some_blanks
  q ← query
  means (line.Ask q)

-- nothing, a comment, or one of the three forms
abbrev pub line_text : Grammar DocLine
line_text = means line.Blank ∣ comment ∣ axiom_line ∣ fact_line ∣ ask_line

-- the text is a line of a document, with any blanks before and behind it, and says this
pub record IsDocLine (text : List ℕ) (d : DocLine) : Type 0 where
  pub core : List ℕ
  pub trimmed : IsTrimmed text core
  pub says : line_text core d

-- ---- what is read

-- the query of the line, where it has one, is within the limits
abbrev pub IsFit : DocLine → Type 0
IsFit line.Blank = Unit {0}
IsFit (line.Axiom a) = Unit {0}
IsFit (line.Fact row) = Unit {0}
IsFit (line.Ask q) = IsQuery q

-- why what says this is not read: it says nothing; or it asks too much; or it asks for a variable that no atom has
abbrev pub IsFaultOf : (DocLine → Type 0) → CommandError → Type 0
IsFaultOf says fault.Syntax = (d : DocLine) → says d → ⊥
IsFaultOf says fault.TooLarge = (q : Question) × says (line.Ask q) × IsTooLarge q
IsFaultOf says (fault.Unsafe v) = (q : Question) × says (line.Ask q) × IsSmall q × IsFirstUnbound q v
IsFaultOf says fault.NoMemory = Unit {0}

abbrev pub IsLineFault : List ℕ → CommandError → Type 0
IsLineFault text = IsFaultOf (IsDocLine text)

abbrev pub IsTextFault : List ℕ → CommandError → Type 0
IsTextFault core = IsFaultOf (line_text core)

-- the text begins with the keyword and one or more blanks, and this stands behind them
pub record Follows (keyword text rest : List ℕ) : Type 0 where
  pub gap : List ℕ
  pub parts : text ≡ keyword ++ gap ++ rest
  pub some : 1 ≤ length gap
  pub blank : AreBlank gap
  pub first : BeginsUnblank rest

-- what a line says whose axiom, row or query this text is
abbrev pub axiom_behind : Grammar DocLine
axiom_behind = do
  tree ← axiom_text
  means (line.Axiom (meaning tree))

abbrev pub fact_behind : Grammar DocLine
fact_behind = do
  row ← row_text
  means (line.Fact row)

abbrev pub ask_behind : Grammar DocLine
ask_behind = do
  q ← query
  means (line.Ask q)
