-- A payload means one thing.
use Rattle.std.proofs.Common.{◌≡◌, ℕ, zero, suc, ◌<◌, true, List, [], ◌∷◌, Result, Ok, Err, refl, sym, ◌∙◌, arith, All}
use Rattle.std.specs.Prelude.{codes}
use Rattle.grammar.specs.Reading.{whole}
use Rattle.grammar.proofs.Exact.{IsWhole, exact_whole}
use Rattle.dl_base.specs.Ontology.{Terminology}
use Rattle.dl_base.specs.declared.row.NamedRow.TheVariants as rows
use Rattle.dl_base.specs.declared.row.NamedChange.{NamedChange}
use Rattle.dl_base.proofs.NameRules.{name_of_bare, bare_of}
use Rattle.txn_codec.specs.Changes.{changes_payload}
use Rattle.txn_codec.specs.ChangesReading.{changes_at}
use Rattle.txn_codec.specs.OntologyPayload.{ontology_payload}
use Rattle.txn_codec.specs.Spelling.{HasNames}
use Rattle.txn_codec.specs.Laws.{AddsInTenBytes}
use Rattle.txn_codec.proofs.ChangesRules.{reads_changes}
use Rattle.txn_codec.proofs.Flawless.{unique_ontology}
use Rattle.txn_codec.proofs.SpelledChanges.{spelled_changes}

once_by : (bytes : List ℕ) (r : Result (List NamedChange) ℕ) → IsWhole changes_payload bytes r → (one other : List NamedChange) → changes_payload bytes one → changes_payload bytes other → one ≡ other
once_by bytes (Ok v) w one other a b = w.only one a ∙ sym (w.only other b)
once_by bytes (Err left) w one other a b = absurd (w.fault.outside (one, a))

pub changes_once : (bytes : List ℕ) (one other : List NamedChange) → changes_payload bytes one → changes_payload bytes other → one ≡ other
changes_once bytes one other a b = once_by bytes (whole (changes_at bytes)) (exact_whole changes_payload bytes (changes_at bytes) reads_changes.is) one other a b

pub ontology_once : (bytes : List ℕ) (one other : Terminology) → ontology_payload bytes one → ontology_payload bytes other → one ≡ other
ontology_once bytes one other a b = (unique_ontology.one bytes [] bytes [] one other a.0 b.0 refl).1

ten_names : (k : ℕ) (d : NamedChange) → k < 1 → HasNames (rows.Concept (codes "A") (codes "a"))
ten_names k d lt = (name_of_bare 255 (codes "A") (omega arith) (bare_of (codes "A") (refl, tt) refl) (omega arith), name_of_bare 255 (codes "a") (omega arith) (bare_of (codes "a") (refl, tt) refl) (omega arith))

one_change : List NamedChange
one_change = record { add = true; row = rows.Concept (codes "A") (codes "a") } ∷ []

pub ten_bytes : AddsInTenBytes
unfolding one_change
ten_bytes = spelled_changes one_change (omega arith) all_of
  where
    all_of : All (λ c. HasNames c.row) one_change
    all_of zero d lt = ten_names 0 d lt
    all_of (suc k) d lt = absurd (omega arith)
