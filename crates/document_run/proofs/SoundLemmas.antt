-- A document that was read is sound.
use Rattle.std.proofs.Common.{ℕ, List, Result, Ok, Err}
use Rattle.std.specs.Prelude.{IfOk}
use Rattle.document_run.specs.Sound.{IsSoundDocument}
use Rattle.document_run.specs.Drafting.{IsWhole}
use Rattle.document_run.specs.Run.{IsRead}
use Rattle.document_run.specs.declared.document.Document.{Document}
use Rattle.document_run.specs.declared.ending.DocumentEnding.{DocumentEnding}
use Rattle.document_run.proofs.FactLemmas.{individuals_within, rows_within}

pub whole_sound : (lines : List (List ℕ)) (document : Document) → IsWhole lines document → IsSoundDocument document
whole_sound lines document whole = record {
  within = rows_within document.ontology whole.said.facts document.facts whole.facts;
  numbered = individuals_within document.ontology whole.said.facts document.facts whole.facts;
  known = whole.askable.known;
}

-- what is read to its end is sound
pub read_sound : (result : Result Document DocumentEnding) (read : List ℕ) → IsRead result read → IfOk result IsSoundDocument
read_sound (Ok document) read is = whole_sound is.lines document is.whole
read_sound (Err ending) read is = tt
