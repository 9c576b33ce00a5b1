-- Grammars some of whose texts have flaws: faults that the grammar doesn't see.
use Rattle.std.specs.Prelude.{◌≡◌, ℕ, ◌+◌, ◌<◌, ◌≤◌, List, ◌++◌, length, ◌⊎◌}
use Rattle.grammar.specs.Grammar.{Grammar, Sequence, means, many, IsFaultAt}
use Rattle.txn_codec.specs.Pieces.{exactly}

-- The loose texts, each with its value, and the places at which bytes have a flaw, counted from 0. A flaw is seen as
-- soon as the piece that has it is there, whatever stands behind.
pub record Checked (V : Type 0) : Type 1 where
  pub loose : Grammar V
  pub flaw : List ℕ → ℕ → Type 0

-- a grammar without flaws
abbrev pub plain : {V : Type 0} → Grammar V → Checked V
plain grammar = record { loose = grammar; flaw = λ text at. ⊥ }

-- the bytes begin with a text of the grammar that has a bad value, and this place of it is the flaw
pub record IsSpoiled {V : Type 0} (grammar : Grammar V) (place : ℕ) (bad : V → Type 0) (bytes : List ℕ) (at : ℕ) : Type 0 where
  pub front : List ℕ
  pub back : List ℕ
  pub met : V
  pub parts : bytes ≡ front ++ back
  pub fits : grammar front met
  pub is_bad : bad met
  pub at_is : at ≡ place

-- the grammar, where a text with a bad value has a flaw at this place
abbrev pub spoiled : {V : Type 0} → Grammar V → ℕ → (V → Type 0) → Checked V
spoiled grammar place bad = record { loose = grammar; flaw = IsSpoiled grammar place bad }

-- the bytes begin with a text of the grammar, and behind it stands a flaw
pub record IsBehind {V : Type 0} (grammar : Grammar V) (flaws : V → List ℕ → ℕ → Type 0) (bytes : List ℕ) (at : ℕ) : Type 0 where
  pub front : List ℕ
  pub back : List ℕ
  pub met : V
  pub place : ℕ
  pub parts : bytes ≡ front ++ back
  pub fits : grammar front met
  pub is : flaws met back place
  pub at_is : at ≡ length front + place

-- one behind the other; what stands behind may depend on the first one's value
infixl 10 ◌>>=◌
abbrev pub ◌>>=◌ : {V W : Type 0} → Checked V → (V → Checked W) → Checked W
first >>= second = record {
  loose = Sequence first.loose (λ v. (second v).loose);
  flaw = λ bytes at. first.flaw bytes at ⊎ IsBehind first.loose (λ v. (second v).flaw) bytes at;
}

infixl 10 ◌>>◌
abbrev pub ◌>>◌ : {V W : Type 0} → Checked V → Checked W → Checked W
first >> second = first >>= λ _. second

-- no more bytes, with this value
abbrev pub gives : {V : Type 0} → V → Checked V
gives v = plain (means v)

-- fewer than so many texts of the grammar, one behind the other
abbrev pub fewer : {V : Type 0} → ℕ → Grammar V → Grammar (List V)
fewer n grammar text values = many grammar text values × (length values < n)

-- exactly so many, one behind the other; which flaws one has may depend on the values before it
abbrev pub exactly_checked : {V : Type 0} → ℕ → Grammar V → (List V → List ℕ → ℕ → Type 0) → Checked (List V)
exactly_checked n grammar flaws = record { loose = exactly n grammar; flaw = IsBehind (fewer n grammar) flaws }

-- the least place of the grammar's fault and of all flaws
pub record IsLeastFault {V : Type 0} (c : Checked V) (bytes : List ℕ) (at : ℕ) : Type 0 where
  pub here : IsFaultAt c.loose bytes at ⊎ c.flaw bytes at
  pub no_fault_before : (place : ℕ) → IsFaultAt c.loose bytes place → at ≤ place
  pub no_flaw_before : (place : ℕ) → c.flaw bytes place → at ≤ place
