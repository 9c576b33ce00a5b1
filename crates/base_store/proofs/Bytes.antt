-- How many names changes bring, and how many bytes they are written in.
use Rattle.std.proofs.Common.{◌≤◌, ◌+◌, ◌*◌, ℕ, Bool, true, false, List, [], ◌∷◌, ◌++◌, length, ap, arith, length-append, if◌then◌else◌}
use Rattle.std.specs.List.{flat_map, list_any}
use Rattle.std.specs.Str.{bytes_eq}
use Rattle.dl_base.specs.Axiom.{with_name}
use Rattle.dl_base.specs.Book.{Interns}
use Rattle.dl_base.specs.declared.row.NamedRow.{NamedRow}
use Rattle.dl_base.specs.declared.row.NamedRow.TheVariants as named
use Rattle.dl_base.specs.declared.row.NamedChange.{NamedChange}
use Rattle.dl_base.proofs.ExtendLemmas.{interned_is}
use Rattle.txn_codec.specs.Changes.{changes_payload}
use Rattle.txn_codec.specs.Spelling.{change_bytes, name_bytes, row_bytes}
use Rattle.txn_codec.proofs.Lengths.{changes_have_their_length}

one_longer : (names : List (List ℕ)) (more : List ℕ) → length (with_name names more) ≤ 1 + length names
one_longer names more = by (list_any (bytes_eq more) names)
  where
    by : (b : Bool) → length (if b then names else names ++ more ∷ []) ≤ 1 + length names
    by true = omega arith
    by false = omega (arith, length-append names (more ∷ []))

pub two_longer : (old mid new : List (List ℕ)) (a b : List ℕ) (n m : ℕ) → Interns old a mid n → Interns mid b new m → length new ≤ 2 + length old
two_longer old mid new a b n m first second =
    omega (arith, ap (λ (xs : List (List ℕ)). length xs) (interned_is old mid a n first), one_longer old a, ap (λ (xs : List (List ℕ)). length xs) (interned_is mid new b m second), one_longer mid b)

-- a change has at least four bytes
row_size : (r : NamedRow) → 3 ≤ length (row_bytes r)
row_size (named.Concept c a) = omega (arith, length-append (name_bytes c) (name_bytes a))
row_size (named.Role p a b) = omega (arith, length-append (name_bytes p) (name_bytes a ++ name_bytes b), length-append (name_bytes a) (name_bytes b))

changes_size : (cs : List NamedChange) → 4 * length cs ≤ length (flat_map change_bytes cs)
changes_size [] = omega arith
changes_size (c ∷ cs) = omega (arith, changes_size cs, length-append (change_bytes c) (flat_map change_bytes cs), row_size c.row)

pub payload_size : (payload : List ℕ) (cs : List NamedChange) → changes_payload payload cs → 4 * length cs ≤ length payload
payload_size payload cs is = omega (arith, changes_have_their_length payload cs is, changes_size cs)
