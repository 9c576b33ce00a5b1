-- Laws of what a document is.
use Rattle.std.specs.Prelude.{◌≡◌, ℕ, List}
use Rattle.dl_base.specs.Ontology.{Terminology}
use Rattle.dl_base.specs.Query.{Question}
use Rattle.dl_base.specs.declared.row.NamedRow.{NamedRow}
use Rattle.document_run.specs.Document.{Asks, IsDocument, Meaning, Refused}

-- a document is refused at one line, with one code
abbrev pub IsRefusedOnce : Type 0
IsRefusedOnce = (bytes : List ℕ) (code n code' n' : ℕ) → IsDocument bytes (Refused code n) → IsDocument bytes (Refused code' n') → (code ≡ code') × (n ≡ n')

-- a document that is refused asks nothing
abbrev pub IsRefusedOrAsks : Type 0
IsRefusedOrAsks = (bytes : List ℕ) (code n : ℕ) (o : Terminology) (rows : List NamedRow) (q : Question)
    → IsDocument bytes (Refused code n) → IsDocument bytes (Asks o rows q) → ⊥

-- each input has a meaning
abbrev pub HasAMeaning : Type 0
HasAMeaning = (bytes : List ℕ) → (m : Meaning) × IsDocument bytes m
