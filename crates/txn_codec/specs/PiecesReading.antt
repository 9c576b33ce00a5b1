-- Reading the pieces of payloads from left to right.
use Rattle.std.specs.Prelude.{ℕ, zero, suc, ◌+◌, ◌-◌, Bool, not, ◌&&◌, ◌==◌, nat_lt, List, [], ◌∷◌, ◌++◌, length, drop, Ok, Err, cond, codes}
use Rattle.byteorder.specs.Endian.{big_number}
use Rattle.grammar.specs.Bytes.{is_kind}
use Rattle.grammar.specs.declared.bytes.Kind.TheVariants.{Starting, Naming, Angled}
use Rattle.grammar.specs.Reading.{Outcome, ◌>>=◌, next_is, run_at, expect_at}
use Rattle.dl_base.specs.NameReading.{is_reserved}

-- a number of so many bytes
unfoldable pub number_at : ℕ → List ℕ → Outcome ℕ
number_at bytes text = cond (nat_lt (length text) bytes) (Err 0) (Ok (big_number bytes text, drop bytes text))

-- a byte that is the length of a name
abbrev pub is_name_length : ℕ → Bool
is_name_length c = not (c == 0) && nat_lt c 256

unfoldable pub name_length_at : List ℕ → Outcome ℕ
name_length_at [] = Err 0
name_length_at (c ∷ cs) = cond (is_name_length c) (Ok (c, cs)) (Err (length (c ∷ cs)))

-- exactly so many bytes of a kind
unfoldable pub exactly_at : (ℕ → Bool) → ℕ → List ℕ → Outcome (List ℕ)
exactly_at p n text = let found = run_at p n text in cond (nat_lt (length found.0) n) (Err (length found.1)) (Ok found)

-- A bare name of exactly so many bytes. Where they are a reserved word, the last of them is the fault, since other
-- bytes go on there.
unfoldable pub bare_of_at : ℕ → List ℕ → Outcome (List ℕ)
bare_of_at n text = do
  found ← exactly_at (is_kind Naming) n text
  cond (is_reserved found.0) (Err (length found.1 + 1)) (Ok found)

-- an angled name of exactly so many bytes
unfoldable pub angled_of_at : ℕ → List ℕ → Outcome (List ℕ)
angled_of_at n text = cond (nat_lt n 3) (Err (length text))
    (do
      left ← expect_at (codes "<") text
      inner ← exactly_at (is_kind Angled) (n - 2) left.1
      right ← expect_at (codes ">") inner.1
      Ok (codes "<" ++ inner.0 ++ codes ">", right.1))

-- a name of exactly so many bytes
unfoldable pub name_of_at : ℕ → List ℕ → Outcome (List ℕ)
name_of_at n text = cond (next_is (is_kind Starting) text) (bare_of_at n text) (angled_of_at n text)

-- a name behind its length
unfoldable pub spelled_name_at : List ℕ → Outcome (List ℕ)
spelled_name_at text = do
  n ← name_length_at text
  name_of_at n.0 n.1

-- so many values, one behind the other
unfoldable pub times_at : {V : Type 0} → (List ℕ → Outcome V) → ℕ → List ℕ → Outcome (List V)
times_at step zero text = Ok ([], text)
times_at step (suc n) text = do
  first ← step text
  others ← times_at step n first.1
  Ok (first.0 ∷ others.0, others.1)
