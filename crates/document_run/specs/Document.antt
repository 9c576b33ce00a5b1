-- What a document is, and which of its lines offends first.
use Rattle.std.specs.Prelude.{◌≡◌, ◌≢◌, ℕ, ◌+◌, ◌<◌, ◌⊎◌, List, [], ◌∷◌, ◌++◌, length, All, Contains, Option, Some, None, IsSome}
use Rattle.std.specs.List.{flat_map}
use Rattle.dl_base.specs.Ontology.{Terminology}
use Rattle.dl_base.specs.Axiom.{Statement, with_names, IsExtended}
use Rattle.dl_base.specs.Rows.{AreRowsOf, AreIndividuals}
use Rattle.dl_base.specs.Query.{Question}
use Rattle.dl_base.specs.declared.axiom.NamedInclusion.{NamedInclusion}
use Rattle.dl_base.specs.declared.row.NamedRow.{NamedRow}
use Rattle.dl_base.specs.declared.row.NamedRow.TheVariants as row
use Rattle.dl_base.specs.declared.query.Term.{Term}
use Rattle.dl_base.specs.declared.query.Atom.{Atom}
use Rattle.dl_base.specs.declared.query.Atom.TheVariants as atom
use Rattle.cq_reader.specs.QueryLimits.{IsTooLarge, IsFirstUnbound}
use Rattle.query_shape.specs.ShapeFault.{IsKnown}
use Rattle.script_reader.specs.Lines.{AreLines}
use Rattle.script_reader.specs.DocLines.{IsDocLine}
use Rattle.script_reader.specs.declared.doc_line.DocLine.{DocLine}
use Rattle.script_reader.specs.declared.doc_line.DocLine.TheVariants as line
use Rattle.document_run.specs.declared.reason.Reason.{Reason}
use Rattle.document_run.specs.declared.reason.Reason.TheVariants as reason

-- ---- what the lines say

-- the axioms, the facts and the query of the lines so far, in order
pub record Context : Type 0 where
  pub axioms : List Statement
  pub facts : List NamedRow
  pub query : Option Question

abbrev pub nothing_said : Context
nothing_said = record { axioms = []; facts = []; query = None }

-- what is said once this line is said too
abbrev pub with_line : Context → DocLine → Context
with_line before line.Blank = before
with_line before (line.Axiom a) = record before { axioms = before.axioms ++ a ∷ [] }
with_line before (line.Fact r) = record before { facts = before.facts ++ r ∷ [] }
with_line before (line.Ask q) = record before { query = Some q }

-- the distinct concept names and role names of the axioms, and their inclusions
abbrev pub concept_names : List Statement → List (List ℕ)
concept_names axioms = with_names [] (flat_map (λ a. a.concepts) axioms)

abbrev pub role_names : List Statement → List (List ℕ)
role_names axioms = with_names [] (flat_map (λ a. a.roles) axioms)

abbrev pub inclusions_in : List Statement → List NamedInclusion
inclusions_in axioms = flat_map (λ a. a.inclusions) axioms

-- ---- what is wrong with a line

-- axioms stand before facts, and these before the one query
abbrev pub IsOutOfOrder : Context → DocLine → Type 0
IsOutOfOrder before line.Blank = ⊥
IsOutOfOrder before (line.Axiom a) = (before.facts ≢ []) ⊎ IsSome before.query
IsOutOfOrder before (line.Fact r) = IsSome before.query
IsOutOfOrder before (line.Ask q) = IsSome before.query

-- the axioms have a body of more than 8 members, or more than 512 concept names, 256 role names or 4,096 inclusions
abbrev pub HasLongBody : List Statement → Type 0
HasLongBody axioms = (i : NamedInclusion) × Contains (inclusions_in axioms) i × (8 < length i.body)

abbrev pub TooManyAxioms : List Statement → Type 0
TooManyAxioms axioms = HasLongBody axioms ⊎ (512 < length (concept_names axioms)) ⊎ (256 < length (role_names axioms)) ⊎ (4096 < length (inclusions_in axioms))

-- with the line the axioms pass a limit
abbrev pub PassesLimit : Context → DocLine → Type 0
PassesLimit before line.Blank = ⊥
PassesLimit before (line.Axiom a) = TooManyAxioms (before.axioms ++ a ∷ [])
PassesLimit before (line.Fact r) = ⊥
PassesLimit before (line.Ask q) = ⊥

-- the query has more than 24 atoms, distinct terms or answer places
abbrev pub AsksTooMuch : DocLine → Type 0
AsksTooMuch line.Blank = ⊥
AsksTooMuch (line.Axiom a) = ⊥
AsksTooMuch (line.Fact r) = ⊥
AsksTooMuch (line.Ask q) = IsTooLarge q

-- an answer variable is in no atom
abbrev pub IsUnsafe : DocLine → Type 0
IsUnsafe line.Blank = ⊥
IsUnsafe (line.Axiom a) = ⊥
IsUnsafe (line.Fact r) = ⊥
IsUnsafe (line.Ask q) = (v : List ℕ) × IsFirstUnbound q v

-- the names that the axioms have
abbrev pub vocabulary : List Statement → Terminology
vocabulary axioms = record { concepts = concept_names axioms; roles = role_names axioms; inclusions = [] }

-- the first atom whose name the axioms lack
pub record IsFirstUnknown (axioms : List Statement) (q : Question) (a : Atom) : Type 0 where
  pub front : List Atom
  pub more : List Atom
  pub parts : q.atoms ≡ front ++ a ∷ more
  pub known : All (IsKnown (vocabulary axioms)) front
  pub unknown : IsKnown (vocabulary axioms) a → ⊥

-- the line names a concept that no axiom names, a query in its first atom with an unknown name
abbrev pub NamesUnknownConcept : Context → DocLine → Type 0
NamesUnknownConcept before line.Blank = ⊥
NamesUnknownConcept before (line.Axiom a) = ⊥
NamesUnknownConcept before (line.Fact (row.Concept c a)) = Contains (concept_names before.axioms) c → ⊥
NamesUnknownConcept before (line.Fact (row.Role p a b)) = ⊥
NamesUnknownConcept before (line.Ask q) = (name : List ℕ) × (t : Term) × IsFirstUnknown before.axioms q (atom.Concept name t)

-- the same of a role
abbrev pub NamesUnknownRole : Context → DocLine → Type 0
NamesUnknownRole before line.Blank = ⊥
NamesUnknownRole before (line.Axiom a) = ⊥
NamesUnknownRole before (line.Fact (row.Concept c a)) = ⊥
NamesUnknownRole before (line.Fact (row.Role p a b)) = Contains (role_names before.axioms) p → ⊥
NamesUnknownRole before (line.Ask q) = (name : List ℕ) × (t : Term) × (u : Term) × IsFirstUnknown before.axioms q (atom.Role name t u)

-- the facts have more than 1,000,000 rows or 65,536 individuals, each counted once
abbrev pub TooManyFacts : List NamedRow → Type 0
TooManyFacts facts = ((rows : List NamedRow) × AreRowsOf facts rows × (1000000 < length rows))
    ⊎ ((names : List (List ℕ)) × AreIndividuals facts names × (65536 < length names))

-- with the line there are too many facts
abbrev pub MakesTooMany : Context → DocLine → Type 0
MakesTooMany before line.Blank = ⊥
MakesTooMany before (line.Axiom a) = ⊥
MakesTooMany before (line.Fact r) = TooManyFacts (before.facts ++ r ∷ [])
MakesTooMany before (line.Ask q) = ⊥

-- the line says something that this holds of
abbrev pub SaysWhere : List ℕ → (DocLine → Type 0) → Type 0
SaysWhere text P = (d : DocLine) × IsDocLine text d × P d

-- the reason holds of the line
abbrev pub HoldsOf : Context → List ℕ → Reason → Type 0
HoldsOf before text reason.TooLong = 4096 < length text
HoldsOf before text reason.Misplaced = ((d : DocLine) → IsDocLine text d → ⊥) ⊎ SaysWhere text (IsOutOfOrder before)
HoldsOf before text reason.PassesLimit = SaysWhere text (PassesLimit before)
HoldsOf before text reason.TooLarge = SaysWhere text AsksTooMuch
HoldsOf before text reason.Unsafe = SaysWhere text IsUnsafe
HoldsOf before text reason.UnknownConcept = SaysWhere text (NamesUnknownConcept before)
HoldsOf before text reason.UnknownRole = SaysWhere text (NamesUnknownRole before)
HoldsOf before text reason.TooManyFacts = SaysWhere text (MakesTooMany before)

-- the place of a reason in the order in which they are tried
abbrev pub rank_of : Reason → ℕ
rank_of reason.TooLong = 0
rank_of reason.Misplaced = 1
rank_of reason.PassesLimit = 2
rank_of reason.TooLarge = 3
rank_of reason.Unsafe = 4
rank_of reason.UnknownConcept = 5
rank_of reason.UnknownRole = 6
rank_of reason.TooManyFacts = 7

-- the line offends, and this is the first reason
pub record Offends (before : Context) (text : List ℕ) (why : Reason) : Type 0 where
  pub holds : HoldsOf before text why
  pub first : (other : Reason) → rank_of other < rank_of why → HoldsOf before text other → ⊥

-- the line says this, and no reason holds of it
pub record Accepts (before : Context) (text : List ℕ) (d : DocLine) : Type 0 where
  pub says : IsDocLine text d
  pub fine : (why : Reason) → HoldsOf before text why → ⊥

-- ---- the document

-- no line offends, and behind them this is said
abbrev pub Accepted : Context → List (List ℕ) → Context → Type 0
Accepted before [] after = after ≡ before
Accepted before (text ∷ lines) after = (d : DocLine) × Accepts before text d × Accepted (with_line before d) lines after

-- line n, counted from 1, is the first that offends
pub record FirstOffence (lines : List (List ℕ)) (n : ℕ) (why : Reason) : Type 0 where
  pub front : List (List ℕ)
  pub text : List ℕ
  pub more : List (List ℕ)
  pub parts : lines ≡ front ++ text ∷ more
  pub number : n ≡ length front + 1
  pub before : Context
  pub accepted : Accepted nothing_said front before
  pub offends : Offends before text why

-- the code of a reason
abbrev pub code_of : Reason → ℕ
code_of reason.TooLong = 2
code_of reason.Misplaced = 1
code_of reason.PassesLimit = 5
code_of reason.TooLarge = 16
code_of reason.Unsafe = 17
code_of reason.UnknownConcept = 6
code_of reason.UnknownRole = 7
code_of reason.TooManyFacts = 11

-- the ontology that the axioms make, one after the other
pub data Makes : List Statement → Terminology → Type 0 where
  none : Makes [] (record { concepts = []; roles = []; inclusions = [] })
  more : {axioms : List Statement} {o : Terminology} (a : Statement) (new : Terminology) → Makes axioms o → IsExtended o a new → Makes (axioms ++ a ∷ []) new

-- what a document is: the first offending line with its code, or an ontology, rows and a query
pub data Meaning : Type 0 where
  Refused : ℕ → ℕ → Meaning
  Asks : Terminology → List NamedRow → Question → Meaning

-- A document without a query is refused at the line behind its last one, with the code of what is out of order.
pub record HasNoQuery (lines : List (List ℕ)) (code n : ℕ) : Type 0 where
  pub after : Context
  pub accepted : Accepted nothing_said lines after
  pub none : after.query ≡ None
  pub code_is : code ≡ 1
  pub number : n ≡ length lines + 1

-- some line offends, and this is the first, with its code
pub record HasOffence (lines : List (List ℕ)) (code n : ℕ) : Type 0 where
  pub why : Reason
  pub code_is : code ≡ code_of why
  pub first : FirstOffence lines n why

-- no line offends, and together they say this
pub record LinesSay (lines : List (List ℕ)) (o : Terminology) (rows : List NamedRow) (q : Question) : Type 0 where
  pub after : Context
  pub accepted : Accepted nothing_said lines after
  pub ontology : Makes after.axioms o
  pub rows_are : AreRowsOf after.facts rows
  pub query : after.query ≡ Some q

abbrev pub Means : List (List ℕ) → Meaning → Type 0
Means lines (Refused code n) = HasOffence lines code n ⊎ HasNoQuery lines code n
Means lines (Asks o rows q) = LinesSay lines o rows q

-- the document that these bytes are
pub record IsDocument (bytes : List ℕ) (meaning : Meaning) : Type 0 where
  pub lines : List (List ℕ)
  pub cut : AreLines bytes lines
  pub means : Means lines meaning
