-- Blocks of lines, each of which holds an axiom, is blank or is a comment.
use Rattle.std.specs.Prelude.{◌≡◌, ℕ, ◌+◌, ◌⊎◌, Bool, true, false, IsTrue, List, [], ◌∷◌, ◌++◌, length, Option, Some, None, Result, Ok, Err}
use Rattle.std.specs.List.{AllByRecursion}
use Rattle.grammar.specs.Bytes.{is_blank}
use Rattle.grammar.specs.Blanks.{blanks}
use Rattle.grammar.specs.Grammar.{Grammar, ◌>>=◌, ◌>>◌, means, Contains}
use Rattle.dl_base.specs.Ontology.{Terminology}
use Rattle.dl_base.specs.Axiom.{Statement, Extends}
use Rattle.dl_base.specs.declared.ontology.Which.{Which}
use Rattle.dl_base.specs.declared.ontology.ExtendError.TheVariants.{TooMany}
use Rattle.axiom_reader.specs.declared.tree.AxiomTree.{AxiomTree}
use Rattle.axiom_reader.specs.declared.block.BlockCause.{BlockCause}
use Rattle.axiom_reader.specs.declared.block.BlockCause.TheVariants.{Syntax, Limit, Length}
use Rattle.axiom_reader.specs.declared.block.BlockError.{BlockError}
use Rattle.axiom_reader.specs.AxiomGrammar.{axiom_text}
use Rattle.axiom_reader.specs.AxiomMeaning.{meaning}

-- ---- one line

-- a line as it is given: its text, or nothing where it is too long
abbrev pub Line : Type 0
Line = Option (List ℕ)

-- blanks alone
abbrev pub IsBlankLine : List ℕ → Type 0
IsBlankLine text = AllByRecursion (λ c. IsTrue (is_blank c)) text

-- the first byte that is no blank is `#`
abbrev pub IsComment : List ℕ → Type 0
IsComment text = (front : List ℕ) × (rest : List ℕ) × (text ≡ front ++ 35 ∷ rest) × IsBlankLine front

abbrev pub IsSkipped : List ℕ → Type 0
IsSkipped text = IsBlankLine text ⊎ IsComment text

-- an axiom, which may have blanks before and behind it
abbrev pub padded_axiom : Grammar AxiomTree
padded_axiom = do
  blanks
  tree ← axiom_text
  blanks
  means tree

-- the line leads from one ontology to another: it is skipped, or it holds an axiom that passes no limit
abbrev pub LeadsTo : Terminology → Line → Terminology → Type 0
LeadsTo o None new = ⊥
LeadsTo o (Some text) new = (IsSkipped text × (new ≡ o)) ⊎ ((tree : AxiomTree) × padded_axiom text tree × Extends o (meaning tree) (Ok new))

-- the line is too long; or it is neither skipped nor an axiom; or its axiom passes a limit of the ontology
abbrev pub LineOffends : Terminology → Line → BlockCause → Type 0
LineOffends o None cause = cause ≡ Length
LineOffends o (Some text) Syntax = (IsSkipped text → ⊥) × (Contains padded_axiom text → ⊥)
LineOffends o (Some text) Limit = (tree : AxiomTree) × (which : Which) × padded_axiom text tree × Extends o (meaning tree) (Err (TooMany which))
LineOffends o (Some text) Length = ⊥

-- the axiom that the text holds, or nothing where it holds none
abbrev pub HoldsAxiom : List ℕ → Option Statement → Type 0
HoldsAxiom text (Some statement) = (tree : AxiomTree) × padded_axiom text tree × (statement ≡ meaning tree)
HoldsAxiom text None = Contains padded_axiom text → ⊥

-- the ontology with the axiom, or that the axiom passes a limit
abbrev pub TakesAxiom : Terminology → Statement → Result Terminology BlockCause → Type 0
TakesAxiom o statement (Ok new) = Extends o statement (Ok new)
TakesAxiom o statement (Err cause) = (cause ≡ Limit) × ((which : Which) × Extends o statement (Err (TooMany which)))

-- where the line leads, or why it offends
abbrev pub Steps : Terminology → Line → Result Terminology BlockCause → Type 0
Steps o line (Ok new) = LeadsTo o line new
Steps o line (Err cause) = LineOffends o line cause

-- ---- all lines

-- the lines lead from one ontology to another, each from where the one before it led
abbrev pub AllLead : Terminology → List Line → Terminology → Type 0
AllLead o [] new = new ≡ o
AllLead o (line ∷ lines) new = (next : Terminology) × LeadsTo o line next × AllLead next lines new

abbrev pub no_names : Terminology
no_names = record { concepts = []; roles = []; inclusions = [] }

-- none of the lines offends, and the ontology is that of all their axioms
abbrev pub LinesGive : List Line → Terminology → Type 0
LinesGive lines o = AllLead no_names lines o

-- The first line that offends, counted from 1: those before it give an ontology, and at this one the line offends.
pub record IsFirstOffence (lines : List Line) (error : BlockError) : Type 0 where
  pub before : List Line
  pub line : Line
  pub after : List Line
  pub cut : lines ≡ before ++ line ∷ after
  pub o : Terminology
  pub gives : LinesGive before o
  pub offends : LineOffends o line error.cause
  pub place : error.line ≡ length before + 1

-- what the lines come to: their ontology, or the first that offends
abbrev pub ComesTo : List Line → Result Terminology BlockError → Type 0
ComesTo lines (Ok o) = LinesGive lines o
ComesTo lines (Err error) = IsFirstOffence lines error

-- ---- a block

-- the number of lines so far, and what they come to
pub record Progress : Type 0 where
  pub lines : ℕ
  pub outcome : Result Terminology BlockError

-- the block was given these lines
pub record IsProgressOf (lines : List Line) (p : Progress) : Type 0 where
  pub count : p.lines ≡ length lines
  pub outcome : ComesTo lines p.outcome

-- a block that is cut off offends at the line after its last one
abbrev pub IsCutOff : List Line → BlockError → Type 0
IsCutOff lines error = (o : Terminology) × LinesGive lines o × (error ≡ record { line = length lines + 1; cause = Syntax })

-- what a block of these lines is, which was ended or was cut off
abbrev pub BlockGives : List Line → Bool → Result Terminology BlockError → Type 0
BlockGives lines true result = ComesTo lines result
BlockGives lines false (Ok o) = ⊥
BlockGives lines false (Err error) = IsFirstOffence lines error ⊎ IsCutOff lines error
