-- What is kept of a document while its lines are read.
use Rattle.std.specs.Prelude.{◌≡◌, ℕ, ◌≤◌, ◌<◌, ◌^◌, List, length, All, Contains, Some, Result, Ok, Err}
use Rattle.std.specs.Option.{ForSome}
use Rattle.dl_base.specs.Ontology.{Terminology}
use Rattle.dl_base.specs.Query.{Question, IsQuery}
use Rattle.dl_base.specs.Replies.{Replied, Answers, Inconsistent, IsReply}
use Rattle.clash_report.specs.Report.{IsNamedClash}
use Rattle.reply_text.specs.declared.reply.Reply.{Reply}
use Rattle.reply_text.specs.declared.reply.Reply.TheVariants as shown
use Rattle.dl_base.specs.declared.axiom.NamedInclusion.{NamedInclusion}
use Rattle.dl_base.specs.declared.row.NamedRow.{NamedRow}
use Rattle.dl_base.specs.declared.row.NamedRow.TheVariants as row
use Rattle.query_shape.specs.ShapeFault.{IsKnown}
use Rattle.script_reader.specs.DocLines.{IsDocLine, IsFit}
use Rattle.document_run.specs.Document.{Context, nothing_said, Accepted, FirstOffence, Makes, concept_names, role_names, inclusions_in, AsksTooMuch, IsUnsafe, SaysWhere, Means, Refused as IsRefused, LinesSay}
use Rattle.document_run.specs.Facts.{KeepsFacts}
use Rattle.script_reader.specs.declared.doc_line.DocLine.{DocLine}
use Rattle.document_run.specs.declared.reason.Reason.{Reason}
use Rattle.document_run.specs.declared.reason.Reason.TheVariants as reason
use Rattle.document_run.specs.declared.document.Partial.{Partial}
use Rattle.document_run.specs.declared.document.Draft.{Draft}
use Rattle.document_run.specs.declared.document.Draft.TheVariants as draft
use Rattle.document_run.specs.declared.document.Document.{Document}
use Rattle.document_run.specs.declared.ending.DocumentEnding.{DocumentEnding}
use Rattle.document_run.specs.declared.ending.DocumentEnding.TheVariants as ending

-- the ontology is that of the axioms
pub record KeepsOntology (said : Context) (o : Terminology) : Type 0 where
  pub makes : Makes said.axioms o
  pub concepts : o.concepts ≡ concept_names said.axioms
  pub roles : o.roles ≡ role_names said.axioms
  pub count : length o.inclusions ≡ length (inclusions_in said.axioms)
  pub short : (i : NamedInclusion) → Contains (inclusions_in said.axioms) i → length i.body ≤ 8

-- a query within the limits, whose names the ontology has
pub record IsAskable (o : Terminology) (q : Question) : Type 0 where
  pub within : IsQuery q
  pub known : All (IsKnown o) q.atoms

-- none of the lines is refused, and this is what they say
pub record KeepsPartial (lines : List (List ℕ)) (partial : Partial) : Type 0 where
  pub said : Context
  pub accepted : Accepted nothing_said lines said
  pub ontology : KeepsOntology said partial.ontology
  pub facts : KeepsFacts partial.ontology said.facts partial.facts
  pub asked : partial.asked ≡ said.query
  pub askable : ForSome partial.asked (IsAskable partial.ontology)
  pub number : partial.lines ≡ length lines

-- the lines so far, or the first of them that is refused
abbrev pub KeepsDraft : List (List ℕ) → Draft → Type 0
KeepsDraft lines (draft.Reading partial) = KeepsPartial lines partial
KeepsDraft lines (draft.Refused why n) = FirstOffence lines n why

-- the next line is not too long
pub record NextText (lines : List (List ℕ)) (text : List ℕ) (partial : Partial) : Type 0 where
  pub few : length lines < 2 ^ 63
  pub short : length text ≤ 4096
  pub keeps : KeepsPartial lines partial

-- the next line is not too long, and says this
pub record NextLine (lines : List (List ℕ)) (text : List ℕ) (said : DocLine) (partial : Partial) : Type 0 where
  pub next : NextText lines text partial
  pub says : IsDocLine text said
  pub fit : IsFit said

-- the line is a query that is refused for this reason, whatever stands before it
abbrev pub IsAskFault : List ℕ → Reason → Type 0
IsAskFault text reason.TooLarge = SaysWhere text AsksTooMuch
IsAskFault text reason.Unsafe = SaysWhere text (λ d. IsUnsafe d × (AsksTooMuch d → ⊥))
IsAskFault text reason.TooLong = ⊥
IsAskFault text reason.Misplaced = ⊥
IsAskFault text reason.PassesLimit = ⊥
IsAskFault text reason.UnknownConcept = ⊥
IsAskFault text reason.UnknownRole = ⊥
IsAskFault text reason.TooManyFacts = ⊥

-- why such a row is refused
abbrev pub unknown_of : NamedRow → Reason
unknown_of (row.Concept c a) = reason.UnknownConcept
unknown_of (row.Role p a b) = reason.UnknownRole

-- the lines are a whole document, and this is what it says
pub record IsWhole (lines : List (List ℕ)) (document : Document) : Type 0 where
  pub said : Context
  pub accepted : Accepted nothing_said lines said
  pub ontology : KeepsOntology said document.ontology
  pub facts : KeepsFacts document.ontology said.facts document.facts
  pub asked : said.query ≡ Some document.asked
  pub askable : IsAskable document.ontology document.asked

-- what the lines are, where there are no more
abbrev pub Finishes : List (List ℕ) → Result Document DocumentEnding → Type 0
Finishes lines (Ok document) = IsWhole lines document
Finishes lines (Err (ending.Refused code n)) = Means lines (IsRefused code n)
Finishes lines (Err ending.Done) = ⊥
Finishes lines (Err ending.ReadFault) = ⊥
Finishes lines (Err ending.PrintFault) = ⊥
Finishes lines (Err ending.NoMemory) = ⊥
Finishes lines (Err ending.InputTooLarge) = ⊥

-- the reply by names is that one: the same keys, or the same clash
abbrev pub IsReplyShown : Terminology → Replied → Reply → Type 0
IsReplyShown o (Answers keys) (shown.Answers these) = these ≡ keys
IsReplyShown o (Inconsistent p) (shown.Inconsistent c) = IsNamedClash o p c
IsReplyShown o (Answers keys) shown.Done = ⊥
IsReplyShown o (Answers keys) (shown.Committed number added removed) = ⊥
IsReplyShown o (Answers keys) (shown.Loaded inclusions) = ⊥
IsReplyShown o (Answers keys) (shown.Reopened transactions) = ⊥
IsReplyShown o (Answers keys) (shown.Prepared h) = ⊥
IsReplyShown o (Answers keys) shown.Consistent = ⊥
IsReplyShown o (Answers keys) (shown.Inconsistent c) = ⊥
IsReplyShown o (Answers keys) (shown.Table lines) = ⊥
IsReplyShown o (Answers keys) (shown.Error e) = ⊥
IsReplyShown o (Inconsistent p) shown.Done = ⊥
IsReplyShown o (Inconsistent p) (shown.Committed number added removed) = ⊥
IsReplyShown o (Inconsistent p) (shown.Loaded inclusions) = ⊥
IsReplyShown o (Inconsistent p) (shown.Reopened transactions) = ⊥
IsReplyShown o (Inconsistent p) (shown.Prepared h) = ⊥
IsReplyShown o (Inconsistent p) (shown.Answers keys) = ⊥
IsReplyShown o (Inconsistent p) shown.Consistent = ⊥
IsReplyShown o (Inconsistent p) (shown.Table lines) = ⊥
IsReplyShown o (Inconsistent p) (shown.Error e) = ⊥

-- it is the reply to the document of these lines
pub record HasReply (lines : List (List ℕ)) (o : Terminology) (shown : Reply) : Type 0 where
  pub rows : List NamedRow
  pub query : Question
  pub says : LinesSay lines o rows query
  pub reply : Replied
  pub is_reply : IsReply o rows query reply
  pub is_shown : IsReplyShown o reply shown
