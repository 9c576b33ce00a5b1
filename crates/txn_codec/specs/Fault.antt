-- Why bytes are no payload.
use Rattle.std.specs.Prelude.{ℕ, List}
use Rattle.txn_codec.specs.Checked.{IsLeastFault}
use Rattle.txn_codec.specs.OntologyPayload.{ontology, ontology_payload}
use Rattle.grammar.specs.Grammar.{IsFaultAt, Contains}
use Rattle.txn_codec.specs.declared.fault.CodecError.{CodecError}
use Rattle.txn_codec.specs.declared.fault.CodecError.TheVariants.{Bad, NoMemory}
use Rattle.txn_codec.specs.Changes.{changes_payload}

-- The place is counted from 0. Memory may run out at any bytes.
abbrev pub IsChangesFault : List ℕ → CodecError → Type 0
IsChangesFault bytes (Bad at) = IsFaultAt changes_payload bytes at
IsChangesFault bytes NoMemory = Unit {0}

-- the same, where memory doesn't run out
abbrev pub NamesChangesFault : List ℕ → CodecError → Type 0
NamesChangesFault bytes (Bad at) = IsFaultAt changes_payload bytes at
NamesChangesFault bytes NoMemory = ⊥

-- Of an ontology, it is the least place of the fault of the loose texts, of a name that stands earlier in its list and
-- of a place out of range.
abbrev pub IsOntologyFault : List ℕ → CodecError → Type 0
IsOntologyFault bytes (Bad at) = IsLeastFault ontology bytes at × (Contains ontology_payload bytes → ⊥)
IsOntologyFault bytes NoMemory = Unit {0}
