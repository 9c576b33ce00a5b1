-- The endings of a call.
use Rattle.std.proofs.Common.{◌≡◌, ◌≤◌, ◌<◌, ◌⊎◌, inl, inr, ◌++◌, ℕ, List, [], ◌∷◌, Option, length, refl, sym, ◌∙◌, ap, subst, arith, length-append}
use Rattle.std.proofs.lemmas.List.{append-nil}
use Rattle.dl_base.specs.Ontology.{Terminology}
use Rattle.dl_base.specs.Query.{Question}
use Rattle.dl_base.specs.declared.row.NamedRow.{NamedRow}
use Rattle.document_run.specs.Document.{IsDocument, Asks, Refused as IsRefused}
use Rattle.document_run.specs.Drafting.{IsWhole, HasReply}
use Rattle.reply_text.specs.ReplyText.{text_of_reply}
use Rattle.reply_text.specs.declared.reply.Reply.{Reply}
use Rattle.document_run.specs.Run.{Reads, GaveEnd, DocumentEnds, DocumentRan, RepliesTo, IsDocumentOf}
use Rattle.document_run.specs.declared.document.Document.{Document}
use Rattle.document_run.specs.declared.ending.DocumentEnding.{DocumentEnding}
use Rattle.document_run.specs.declared.ending.DocumentEnding.TheVariants as ending
use Rattle.document_run.proofs.DocumentLemmas.{refused_once, not_both_meanings}

-- ---- how a reply ends

-- a reply ends in one of three ways
abbrev RepliesOnly : DocumentEnding → Type 0
RepliesOnly s = (s ≡ ending.Done) ⊎ (s ≡ ending.PrintFault) ⊎ (s ≡ ending.NoMemory)

pub never_read_fault : (s : DocumentEnding) → RepliesOnly s → s ≡ ending.ReadFault → ⊥
never_read_fault s (inl d) e = let f : ending.Done ≡ ending.ReadFault = sym d ∙ e in cc
never_read_fault s (inr (inl d)) e = let f : ending.PrintFault ≡ ending.ReadFault = sym d ∙ e in cc
never_read_fault s (inr (inr d)) e = let f : ending.NoMemory ≡ ending.ReadFault = sym d ∙ e in cc

pub else_no_memory : (s : DocumentEnding) → RepliesOnly s → (s ≡ ending.Done → ⊥) → (s ≡ ending.PrintFault → ⊥) → s ≡ ending.NoMemory
else_no_memory s (inl d) a b = absurd (a d)
else_no_memory s (inr (inl d)) a b = absurd (b d)
else_no_memory s (inr (inr d)) a b = d

-- ---- the reply

-- the text of what is shown is that of the reply to the document
pub replies_to : (read text : List ℕ) (shown : Reply) (document : Document) → IsDocumentOf read document
    → ((lines : List (List ℕ)) → IsWhole lines document → HasReply lines document.ontology shown) → text ≡ text_of_reply shown → RepliesTo read text
replies_to read text shown document d replies is =
    let reply = replies d.lines d.whole in
    record {
      ontology = document.ontology;
      rows = reply.rows;
      query = reply.query;
      document = record { lines = d.lines; cut = d.cut; means = reply.says };
      reply = reply.reply;
      is_reply = reply.is_reply;
      shown = shown;
      is_shown = reply.is_shown;
      text_is = is;
    }

-- ---- what a document's meaning leaves

whole_input : (input read rest : List ℕ) (left : Option (List ℕ)) → Reads input left read rest → GaveEnd read rest → input ≡ read
whole_input input read rest left reads gave = reads.parts ∙ ap (λ (l : List ℕ). read ++ l) gave.all ∙ append-nil read

too_large : (input read rest : List ℕ) (left : Option (List ℕ)) → Reads input left read rest → length input ≤ 67108864 → length read ≡ 67108865 → ⊥
too_large input read rest left reads few is = omega (arith, few, is, ap length reads.parts, length-append read rest)

module _ (input : List ℕ) (left old new : Option (List ℕ)) (few : length input ≤ 67108864) where
  module _ (code line : ℕ) (document : IsDocument input (IsRefused code line)) where
    not_replied : (read rest text : List ℕ) → Reads input left read rest → GaveEnd read rest → RepliesTo read text → ⊥
    not_replied read rest text reads gave r =
        not_both_meanings read code line r.ontology r.rows r.query
        (subst (λ (l : List ℕ). IsDocument l (IsRefused code line)) (whole_input input read rest left reads gave) document) r.document

    same_refusal : (read rest : List ℕ) (code' line' : ℕ) → Reads input left read rest → GaveEnd read rest → IsDocument read (IsRefused code' line') → ending.Refused code' line' ≡ ending.Refused code line
    same_refusal read rest code' line' reads gave r =
        let once = refused_once read code' line' code line r (subst (λ (l : List ℕ). IsDocument l (IsRefused code line)) (whole_input input read rest left reads gave) document) in
        ap (λ (c : ℕ). ending.Refused c line') once.0 ∙ ap (λ (n : ℕ). ending.Refused code n) once.1

    refused_by : (e : DocumentEnding) (read rest : List ℕ) → Reads input left read rest → DocumentEnds e read rest old new
        → (e ≡ ending.Refused code line) ⊎ (e ≡ ending.ReadFault) ⊎ (e ≡ ending.NoMemory)
    refused_by (ending.Refused code' line') read rest reads ends = inl (same_refusal read rest code' line' reads ends.0.0 ends.0.1)
    refused_by ending.ReadFault read rest reads ends = inr (inl refl)
    refused_by ending.NoMemory read rest reads ends = inr (inr refl)
    refused_by ending.Done read rest reads ends = absurd (not_replied read rest ends.1.0 reads ends.0 ends.1.1)
    refused_by ending.PrintFault read rest reads ends = absurd (not_replied read rest ends.1.0 reads ends.0 ends.1.1)
    refused_by ending.InputTooLarge read rest reads ends = absurd (too_large input read rest left reads few ends.0)

    -- a document with an offending line is refused
    pub refused_only : (e : DocumentEnding) → DocumentRan e input left old new → (e ≡ ending.Refused code line) ⊎ (e ≡ ending.ReadFault) ⊎ (e ≡ ending.NoMemory)
    refused_only e r = refused_by e r.read r.rest r.reads r.ends

  module _ (o : Terminology) (rows : List NamedRow) (q : Question) (document : IsDocument input (Asks o rows q)) where
    not_refused : (read rest : List ℕ) (code line : ℕ) → Reads input left read rest → GaveEnd read rest → IsDocument read (IsRefused code line) → ⊥
    not_refused read rest code line reads gave r =
        not_both_meanings read code line o rows q r (subst (λ (l : List ℕ). IsDocument l (Asks o rows q)) (whole_input input read rest left reads gave) document)

    answered_by : (e : DocumentEnding) (read rest : List ℕ) → Reads input left read rest → DocumentEnds e read rest old new
        → (e ≡ ending.Done) ⊎ (e ≡ ending.ReadFault) ⊎ (e ≡ ending.PrintFault) ⊎ (e ≡ ending.NoMemory)
    answered_by ending.Done read rest reads ends = inl refl
    answered_by ending.ReadFault read rest reads ends = inr (inl refl)
    answered_by ending.PrintFault read rest reads ends = inr (inr (inl refl))
    answered_by ending.NoMemory read rest reads ends = inr (inr (inr refl))
    answered_by (ending.Refused code line) read rest reads ends = absurd (not_refused read rest code line reads ends.0.0 ends.0.1)
    answered_by ending.InputTooLarge read rest reads ends = absurd (too_large input read rest left reads few ends.0)

    -- a document without an offending line is answered
    pub answered_only : (e : DocumentEnding) → DocumentRan e input left old new → (e ≡ ending.Done) ⊎ (e ≡ ending.ReadFault) ⊎ (e ≡ ending.PrintFault) ⊎ (e ≡ ending.NoMemory)
    answered_only e r = answered_by e r.read r.rest r.reads r.ends
