-- Names and variables, as the formats write them.
use Rattle.std.specs.Prelude.{◌≡◌, ℕ, ◌≤◌, IsTrue, List, [], ◌∷◌, ◌++◌, length, codes, ◌⊎◌}
use Rattle.std.specs.List.{AllByRecursion}
use Rattle.grammar.specs.Bytes.{starts_name, is_name_byte, is_angled_byte}
use Rattle.grammar.specs.Grammar.{Grammar, ◌>>=◌, ◌>>◌, means, ◌∣◌, literal, bytes_within, Contains}

-- a letter or `_`, followed by letters, digits, `_`, `-` and `.`
abbrev pub IsWord : List ℕ → Type 0
IsWord [] = ⊥
IsWord (c ∷ cs) = IsTrue (starts_name c) × AllByRecursion (λ b. IsTrue (is_name_byte b)) cs

-- the four words that are no bare names
abbrev pub IsReserved : List ℕ → Type 0
IsReserved word = (word ≡ codes "nothing") ⊎ (word ≡ codes "And") ⊎ (word ≡ codes "Some") ⊎ (word ≡ codes "Inv")

abbrev pub IsBare : List ℕ → Type 0
IsBare text = IsWord text × (IsReserved text → ⊥)

-- a bare name of at most so many bytes
abbrev pub bare : ℕ → Grammar (List ℕ)
bare most text value = IsBare text × (length text ≤ most) × (value ≡ text)

-- `<`, one or more bytes, `>`, 255 bytes at most with the brackets, which belong to the name
abbrev pub angled : Grammar (List ℕ)
angled = do
  literal (codes "<")
  inner ← bytes_within is_angled_byte 1 253
  literal (codes ">")
  means (codes "<" ++ inner ++ codes ">")

-- NAME
abbrev pub name : Grammar (List ℕ)
name = bare 255 ∣ angled

-- VAR: the value is the variable's name, what follows the `?`
abbrev pub variable : Grammar (List ℕ)
variable = do
  literal (codes "?")
  bare 254

-- the name of a variable, which follows its `?`
abbrev pub IsVariableName : List ℕ → Type 0
IsVariableName text = IsBare text × (length text ≤ 254)

abbrev pub IsName : List ℕ → Type 0
IsName text = Contains name text

-- a bare name or one of the four words, of at most 255 bytes: what is read before it is known which of them it is
abbrev pub word : Grammar (List ℕ)
word text value = IsWord text × (length text ≤ 255) × (value ≡ text)
