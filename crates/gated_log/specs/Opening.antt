-- What becomes of an area that is opened.
use Rattle.std.specs.Prelude.{◌≡◌, ℕ, List, [], ◌∷◌, ◌++◌, drop}
use Rattle.gated_log.specs.Entries.{Bounds, BeginsWithEntries, IsFresh, top}

-- the header and a closed gate stand over what was there
abbrev pub initialised : List ℕ → List ℕ
initialised old = top ++ 0 ∷ drop 18 old

-- A fresh area is initialised, and another one stays as it was. Then it has a header, and entries may stand behind it.
pub record Opens (b : Bounds) (old new : List ℕ) : Type 0 where
  pub fresh : IsFresh old → new ≡ initialised old
  pub other : (IsFresh old → ⊥) → new ≡ old
  pub rest : List ℕ
  pub begins : BeginsWithEntries b new [] rest
