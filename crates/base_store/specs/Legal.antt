-- What may stand behind a history.
use Rattle.std.specs.Prelude.{◌≡◌, ◌⊎◌, ◌<◌, ◌≤◌, ℕ, List, [], ◌∷◌, ◌++◌, length, All, Contains}
use Rattle.dl_base.specs.Numbers.{IsNamedBy}
use Rattle.dl_base.specs.Ontology.{Terminology}
use Rattle.dl_base.specs.Rows.{AreIndividuals}
use Rattle.dl_base.specs.declared.row.NamedRow.{NamedRow}
use Rattle.dl_base.specs.declared.row.NamedChange.{NamedChange}
use Rattle.txn_codec.specs.Changes.{changes_payload}
use Rattle.txn_codec.specs.OntologyPayload.{ontology_payload}
use Rattle.gated_log.specs.Entries.{Entry}
use Rattle.base_store.specs.History.{History, Empty, Over, AreRowsAfter}

-- more than 1,000,000 rows or 65,536 individuals
pub record IsCrowded (h : History) : Type 0 where
  pub rows : List NamedRow
  pub are : AreRowsAfter h rows
  pub individuals : List (List ℕ)
  pub names : AreIndividuals rows individuals
  pub many : (1000000 < length rows) ⊎ (65536 < length individuals)

-- A transaction that may stand behind these. The limits on rows and individuals are judged behind its last change.
pub record IsNextTransaction (o : Terminology) (before : List (List NamedChange)) (changes : List NamedChange) : Type 0 where
  pub few : length changes ≤ 10000
  pub named : All (λ c. IsNamedBy o c.row) changes
  pub fits : IsCrowded (Over o (before ++ changes ∷ [])) → ⊥

-- the history has an ontology, and these changes may stand behind it
abbrev pub CanFollow : History → List NamedChange → Type 0
CanFollow Empty changes = ⊥
CanFollow (Over o before) changes = IsNextTransaction o before changes

-- An entry is a legal next one and leads to this history: an ontology first, then transactions.
abbrev pub Continues : History → Entry → History → Type 0
Continues Empty e next = (e.kind ≡ 1) × ((o : Terminology) × ontology_payload e.payload o × (next ≡ Over o []))
Continues (Over o before) e next = (e.kind ≡ 2) × ((changes : List NamedChange) × changes_payload e.payload changes × IsNextTransaction o before changes × (next ≡ Over o (before ++ changes ∷ [])))

-- the entries in order, each behind the history that those before it led to
abbrev pub Leads : History → List Entry → History → Type 0
Leads h [] end = end ≡ h
Leads h (e ∷ es) end = (next : History) × Continues h e next × Leads next es end

-- each entry is a legal next one, and all of them tell this history
abbrev pub Tells : List Entry → History → Type 0
Tells es h = Leads Empty es h
