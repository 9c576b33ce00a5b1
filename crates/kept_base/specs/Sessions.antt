-- The sessions of a base, by their numbers.
use Rattle.std.specs.Prelude.{◌≡◌, ◌==◌, ℕ, List, Option, None, if◌then◌else◌, slice_index_or}
use Rattle.dl_base.specs.declared.row.NamedChange.{NamedChange}

-- a session is closed, or open with changes; those past the end are closed
abbrev pub session_in : List (Option (List NamedChange)) → ℕ → Option (List NamedChange)
session_in sessions k = slice_index_or sessions k None

-- this session becomes closed, or open with these changes, and the others stay as they were
abbrev pub PutsSession : ℕ → Option (List NamedChange) → List (Option (List NamedChange)) → List (Option (List NamedChange)) → Type 0
PutsSession k changes old new = (n : ℕ) → session_in new n ≡ (if n == k then changes else session_in old n)
