-- How many changes a payload has.
use Rattle.std.specs.Prelude.{◌≡◌, ℕ, List, length, Option, Some, None}
use Rattle.dl_base.specs.declared.row.NamedChange.{NamedChange}
use Rattle.txn_codec.specs.Changes.{changes_payload}

-- Whatever changes the bytes are the payload of, there are so many. With none, the bytes are the payload of no changes.
abbrev pub IsCountOfChanges : List ℕ → Option ℕ → Type 0
IsCountOfChanges bytes None = (changes : List NamedChange) → changes_payload bytes changes → ⊥
IsCountOfChanges bytes (Some n) = (changes : List NamedChange) → changes_payload bytes changes → length changes ≡ n
