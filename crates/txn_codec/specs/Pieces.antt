-- The pieces of payloads. Each of them ends by itself.
use Rattle.std.specs.Prelude.{◌≡◌, ℕ, List, ◌∷◌, length}
use Rattle.byteorder.specs.Endian.{big_number}
use Rattle.grammar.specs.Grammar.{Grammar, times}
use Rattle.dl_base.specs.Names.{IsName}

-- so many bytes, and the number that they are, the most significant byte first
abbrev pub number : ℕ → Grammar ℕ
number bytes text value = (length text ≡ bytes) × (value ≡ big_number bytes text)

-- a name behind its length, which is one byte
abbrev pub spelled_name : Grammar (List ℕ)
spelled_name text value = (text ≡ length value ∷ value) × IsName value

-- exactly so many texts of the grammar, one behind the other
abbrev pub exactly : {V : Type 0} → ℕ → Grammar V → Grammar (List V)
exactly n grammar = times n n grammar
