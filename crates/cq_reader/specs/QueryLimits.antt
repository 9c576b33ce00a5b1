-- What is asked of a query beside its text.
use Rattle.std.specs.Prelude.{◌≡◌, ◌≢◌, ℕ, ◌<◌, ◌≤◌, List, ◌∷◌, ◌++◌, length, All, AllPairs, Contains, ◌⊎◌}
use Rattle.dl_base.specs.Query.{Question, terms, HasFewTerms}
use Rattle.dl_base.specs.declared.query.Term.{Term}
use Rattle.dl_base.specs.declared.query.Term.TheVariants as term

-- each of the terms, once
pub record AreDistinctOf (all found : List Term) : Type 0 where
  pub distinct : AllPairs (λ x y. x ≢ y) found
  pub within : All (Contains all) found
  pub each : All (Contains found) all

-- more than so many terms of the query are distinct
pub record HasMoreTerms (q : Question) (most : ℕ) : Type 0 where
  pub some : List Term
  pub distinct : AllPairs (λ x y. x ≢ y) some
  pub within : All (Contains (terms q)) some
  pub more : most < length some

-- at most 24 atoms, 24 distinct terms and 24 answer places
pub record IsSmall (q : Question) : Type 0 where
  pub atoms : length q.atoms ≤ 24
  pub answers : length q.answers ≤ 24
  pub terms : HasFewTerms q 24

-- more than 24 of one of the three
abbrev pub IsTooLarge : Question → Type 0
IsTooLarge q = (24 < length q.atoms) ⊎ (24 < length q.answers) ⊎ HasMoreTerms q 24

-- the variable is in an atom
abbrev pub IsBoundVariable : Question → List ℕ → Type 0
IsBoundVariable q v = Contains (terms q) (term.Var v)

-- the first answer variable that is in no atom
pub record IsFirstUnbound (q : Question) (v : List ℕ) : Type 0 where
  pub before : List (List ℕ)
  pub after : List (List ℕ)
  pub parts : q.answers ≡ before ++ v ∷ after
  pub bound : All (IsBoundVariable q) before
  pub here : IsBoundVariable q v → ⊥
