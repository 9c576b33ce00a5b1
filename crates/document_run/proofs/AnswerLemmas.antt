-- Laws of the reply to a document.
use Rattle.std.proofs.Common.{◌≡◌, ℕ, List, All, Some, None, Result, Ok, Err, IfOk, refl, sym, subst}
use Rattle.std.proofs.lemmas.List.Elements.{All-contains}
use Rattle.dl_base.specs.Ontology.{Terminology}
use Rattle.dl_base.specs.Query.{Question}
use Rattle.dl_base.specs.Answers.{AreAnswers}
use Rattle.dl_base.specs.Clashes.{IsFirstClash}
use Rattle.dl_base.specs.Rows.{AreRowsOf}
use Rattle.dl_base.specs.declared.row.NamedRow.{NamedRow}
use Rattle.dl_base.specs.declared.query.Atom.{Atom}
use Rattle.dl_base.specs.declared.query.Atom.TheVariants as atom
use Rattle.dl_base.proofs.RowLemmas.{row_total, row_same}
use Rattle.dl_base.specs.Rows.{row_cmp}
use Rattle.query_shape.specs.ShapeFault.{IsKnown, IsAtomFault, IsShapeFault}
use Rattle.query_shape.specs.declared.numbering.ShapeError.{ShapeError}
use Rattle.query_shape.specs.declared.numbering.ShapeError.TheVariants as errors
use Rattle.clash_report.specs.Report.{IsReported}
use Rattle.dl_base.specs.Numbers.{StandFor}
use Rattle.dl_base.specs.Replies.{Answers, Inconsistent}
use Rattle.dl_base.specs.declared.clash.Clash.{Clash}
use Rattle.document_run.specs.Document.{LinesSay}
use Rattle.reply_text.specs.declared.reply.Reply.{Reply}
use Rattle.reply_text.specs.declared.reply.Reply.TheVariants as shown
use Rattle.document_run.specs.Drafting.{IsWhole, HasReply}
use Rattle.document_run.specs.declared.document.Document.{Document}
use Rattle.dl_base.proofs.InOrder.{in_order}
use Rattle.document_run.proofs.FactLemmas.{rows_in_order}
use Rattle.dl_base.proofs.PlaceLemmas.{member_at}

-- ---- names that the ontology has

concept_known : (o : Terminology) (a : Atom) (told : List ℕ) → IsKnown o a → IsAtomFault o a (errors.UnknownConcept told) → ⊥
concept_known o (atom.Concept name t) told known fault = fault.1 known
concept_known o (atom.Role name t u) told known fault = fault

role_known : (o : Terminology) (a : Atom) (told : List ℕ) → IsKnown o a → IsAtomFault o a (errors.UnknownRole told) → ⊥
role_known o (atom.Concept name t) told known fault = fault
role_known o (atom.Role name t u) told known fault = fault.1 known

-- where the ontology has each name of the query, its shape fails for want of memory alone
pub only_memory : (o : Terminology) (q : Question) (e : ShapeError) → All (IsKnown o) q.atoms → IsShapeFault o q e → e ≡ errors.NoMemory
only_memory o q (errors.UnknownConcept told) known fault = absurd (concept_known o fault.atom told (All-contains (IsKnown o) q.atoms fault.atom known (member_at q.atoms fault.place fault.atom fault.there)) fault.fault)
only_memory o q (errors.UnknownRole told) known fault = absurd (role_known o fault.atom told (All-contains (IsKnown o) q.atoms fault.atom known (member_at q.atoms fault.place fault.atom fault.there)) fault.fault)
only_memory o q errors.NoMemory known fault = refl

-- ---- the reply

-- the rows of a document, in order
abbrev pub rows_in : {lines : List (List ℕ)} {document : Document} → IsWhole lines document → List NamedRow
rows_in whole = in_order row_cmp row_total row_same whole.said.facts

pub rows_are : {lines : List (List ℕ)} {document : Document} (whole : IsWhole lines document) → AreRowsOf whole.said.facts (rows_in whole)
rows_are whole = rows_in_order whole.said.facts

says_of : {lines : List (List ℕ)} {document : Document} (whole : IsWhole lines document) → LinesSay lines document.ontology (rows_in whole) document.asked
says_of whole = record { after = whole.said; accepted = whole.accepted; ontology = whole.ontology.makes; rows_are = rows_are whole; query = whole.asked }

-- its rows by numbers stand for those in order
pub stand_of : {lines : List (List ℕ)} {document : Document} (whole : IsWhole lines document) → StandFor document.ontology document.facts.individuals document.facts.rows (rows_in whole)
stand_of whole =
    let stand = whole.facts.stand in
    let are = rows_are whole in
    record {
      distinct = stand.distinct;
      each = λ r c. stand.each r (are.only r c);
      only = λ n c. let found = stand.only n c in (found.0, are.each found.0 found.1, found.2);
    }

-- the answers are the reply to the document, where nothing clashes
pub answers_replied : (lines : List (List ℕ)) (document : Document) (keys : List (List (List ℕ))) (whole : IsWhole lines document) → IsFirstClash document.ontology (rows_in whole) None
    → AreAnswers document.ontology (rows_in whole) document.asked keys → HasReply lines document.ontology (shown.Answers keys)
answers_replied lines document keys whole none answers = record {
  rows = rows_in whole;
  query = document.asked;
  says = says_of whole;
  reply = Answers keys;
  is_reply = (none, answers);
  is_shown = refl;
}

pub answers_shown : {E : Type 0} (lines : List (List ℕ)) (document : Document) (r : Result Reply E) (whole : IsWhole lines document) → IsFirstClash document.ontology (rows_in whole) None
    → IfOk r (λ (s : Reply). (keys : List (List (List ℕ))) × AreAnswers document.ontology (rows_in whole) document.asked keys × (s ≡ shown.Answers keys)) → IfOk r (HasReply lines document.ontology)
answers_shown lines document (Err e) whole none answers = tt
answers_shown lines document (Ok s) whole none (keys, are, is) = subst (HasReply lines document.ontology) (sym is) (answers_replied lines document keys whole none are)

-- the first clash is the reply to it
pub clash_replied : (lines : List (List ℕ)) (document : Document) (c : Clash) (whole : IsWhole lines document) → IsReported document.ontology (rows_in whole) (Some c)
    → HasReply lines document.ontology (shown.Inconsistent c)
clash_replied lines document c whole (p, first, named) = record {
  rows = rows_in whole;
  query = document.asked;
  says = says_of whole;
  reply = Inconsistent p;
  is_reply = first;
  is_shown = named;
}
