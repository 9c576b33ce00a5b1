-- The commands that the words of a command line name.
use Rattle.std.specs.Prelude.{◌≡◌, ◌⊎◌, ◌≤◌, ℕ, List, [], ◌∷◌, codes}
use Rattle.std.specs.Fmt.{decimal}

-- the words are the one word `answer`
abbrev pub NamesAnswer : List (List ℕ) → Type 0
NamesAnswer words = words ≡ codes "answer" ∷ []

-- the words are the one word `run`
abbrev pub NamesRun : List (List ℕ) → Type 0
NamesRun words = words ≡ codes "run" ∷ []

-- the word is the decimal of this size, which is from 1 to 2,000
pub record IsSampleSize (size : ℕ) (word : List ℕ) : Type 0 where
  pub text : word ≡ decimal size
  pub least : 1 ≤ size
  pub most : size ≤ 2000

-- the words are `sample` and this size
abbrev pub NamesSample : ℕ → List (List ℕ) → Type 0
NamesSample size words = (word : List ℕ) × (words ≡ codes "sample" ∷ word ∷ []) × IsSampleSize size word

-- the words name a command
abbrev pub NamesCommand : List (List ℕ) → Type 0
NamesCommand words = NamesAnswer words ⊎ NamesRun words ⊎ ((size : ℕ) × NamesSample size words)
