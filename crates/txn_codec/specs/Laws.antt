-- Laws of payloads.
use Rattle.std.specs.Prelude.{◌≡◌, ℕ, true, List, [], ◌∷◌, length, codes}
use Rattle.dl_base.specs.Ontology.{Terminology}
use Rattle.dl_base.specs.declared.row.NamedRow.TheVariants as rows
use Rattle.dl_base.specs.declared.row.NamedChange.{NamedChange}
use Rattle.txn_codec.specs.Changes.{changes_payload}
use Rattle.txn_codec.specs.OntologyPayload.{ontology_payload}
use Rattle.txn_codec.specs.Spelling.{changes_bytes, ontology_bytes}

abbrev pub ChangesMeanOnce : Type 0
ChangesMeanOnce = (bytes : List ℕ) (one other : List NamedChange) → changes_payload bytes one → changes_payload bytes other → one ≡ other

abbrev pub OntologyMeansOnce : Type 0
OntologyMeansOnce = (bytes : List ℕ) (one other : Terminology) → ontology_payload bytes one → ontology_payload bytes other → one ≡ other

-- a payload has as many bytes as what it means is written in
abbrev pub ChangesHaveTheirLength : Type 0
ChangesHaveTheirLength = (bytes : List ℕ) (changes : List NamedChange) → changes_payload bytes changes → length bytes ≡ length (changes_bytes changes)

abbrev pub OntologyHasItsLength : Type 0
OntologyHasItsLength = (bytes : List ℕ) (o : Terminology) → ontology_payload bytes o → length bytes ≡ length (ontology_bytes o)

-- these ten bytes are one change, which adds A(a)
abbrev pub AddsInTenBytes : Type 0
AddsInTenBytes = changes_payload (0 ∷ 0 ∷ 0 ∷ 1 ∷ 1 ∷ 2 ∷ 1 ∷ 65 ∷ 1 ∷ 97 ∷ []) (record { add = true; row = rows.Concept (codes "A") (codes "a") } ∷ [])
