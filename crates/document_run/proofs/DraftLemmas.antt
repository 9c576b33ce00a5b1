-- Laws of a document while its lines are read.
use Rattle.std.proofs.Common.{◌≡◌, ℕ, ◌+◌, ◌^◌, ◌<◌, List, [], ◌∷◌, ◌++◌, length, refl, sym, ◌∙◌, ap, subst, arith, append_assoc, length-append}
use Rattle.std.specs.Option.{ForSome}
use Rattle.host_io.specs.Causes.{raised}
use Rattle.script_reader.specs.DocLines.{IsDocLine}
use Rattle.script_reader.specs.declared.doc_line.DocLine.{DocLine}
use Rattle.document_run.specs.Facts.{KeepsFacts}
use Rattle.document_run.specs.Document.{Context, nothing_said, with_line, Offends, Accepts, Accepted, FirstOffence, rank_of}
use Rattle.document_run.specs.Drafting.{KeepsOntology, KeepsPartial, NextText, IsAskable}
use Rattle.document_run.specs.declared.reason.Reason.{Reason}
use Rattle.document_run.specs.declared.reason.Reason.TheVariants as reason
use Rattle.document_run.specs.declared.document.Partial.{Partial}
use Rattle.document_run.proofs.ReasonLemmas.{NoneBelow, HoldsFor, holds_for, offends_by, offends_long}

pub accepted_more : (lines : List (List ℕ)) (before after : Context) (text : List ℕ) (d : DocLine) → Accepted before lines after → Accepts after text d
    → Accepted before (lines ++ text ∷ []) (with_line after d)
accepted_more [] before after text d same accepts = (d, subst (λ (c : Context). Accepts c text d) same accepts, ap (λ (c : Context). with_line c d) same)
accepted_more (first ∷ lines) before after text d (e, head, tail) accepts = (e, head, accepted_more lines (with_line before e) after text d tail accepts)

-- the first offence stays where it is
pub offence_more : (lines : List (List ℕ)) (text : List ℕ) (n : ℕ) (why : Reason) → FirstOffence lines n why → FirstOffence (lines ++ text ∷ []) n why
offence_more lines text n why f = record {
  front = f.front;
  text = f.text;
  more = f.more ++ text ∷ [];
  parts = ap (λ (xs : List (List ℕ)). xs ++ text ∷ []) f.parts ∙ append_assoc f.front (f.text ∷ f.more) (text ∷ []);
  number = f.number;
  before = f.before;
  accepted = f.accepted;
  offends = f.offends;
}

raised_once : (n m : ℕ) → n ≡ m → m < 2 ^ 63 → raised n ≡ m + 1
raised_once n m e few = omega arith

-- the line behind these is the first that offends
offence_now : (lines : List (List ℕ)) (text : List ℕ) (p : Partial) (k : KeepsPartial lines p) (why : Reason) → length lines < 2 ^ 63
    → Offends k.said text why → FirstOffence (lines ++ text ∷ []) (raised p.lines) why
offence_now lines text p k why few offends = record {
  front = lines;
  text = text;
  more = [];
  parts = refl;
  number = raised_once p.lines (length lines) k.number few;
  before = k.said;
  accepted = k.accepted;
  offends = offends;
}

-- a line that says this
module _ (lines : List (List ℕ)) (text : List ℕ) (d : DocLine) (p : Partial) (next : NextText lines text p) (says : IsDocLine text d) where
  pub refused_by : (why : Reason) → HoldsFor next.keeps.said d why → NoneBelow (HoldsFor next.keeps.said d) (rank_of why) → FirstOffence (lines ++ text ∷ []) (raised p.lines) why
  refused_by why holds none = offence_now lines text p next.keeps why next.few (offends_by next.keeps.said text d says next.short why holds none)

  -- no reason holds of the line: this is what the lines say now
  pub kept_more : ((why : Reason) → HoldsFor next.keeps.said d why → ⊥) → (new : Partial) → new.lines ≡ raised p.lines → KeepsOntology (with_line next.keeps.said d) new.ontology
      → KeepsFacts new.ontology (with_line next.keeps.said d).facts new.facts → new.asked ≡ (with_line next.keeps.said d).query → ForSome new.asked (IsAskable new.ontology)
      → KeepsPartial (lines ++ text ∷ []) new
  kept_more fine new number ontology facts asked askable = record {
    said = with_line next.keeps.said d;
    accepted = accepted_more lines nothing_said next.keeps.said text d next.keeps.accepted
        (record { says = says; fine = λ why holds. fine why (holds_for next.keeps.said text d says next.short why holds) });
    ontology = ontology;
    facts = facts;
    asked = asked;
    askable = askable;
    number = number ∙ raised_once p.lines (length lines) next.keeps.number next.few ∙ sym (length-append lines (text ∷ []));
  }
