-- Conjunctive queries.
use Rattle.std.specs.Prelude.{ℕ, ◌≤◌, List, [], ◌∷◌, length, All, Contains}
use Rattle.std.specs.List.{flat_map}
use Rattle.dl_base.specs.Names.{IsVariableName}
use Rattle.dl_base.specs.declared.query.Term.{Term}
use Rattle.dl_base.specs.declared.query.Term.TheVariants as term
use Rattle.dl_base.specs.declared.query.Atom.{Atom}
use Rattle.dl_base.specs.declared.query.Atom.TheVariants as atom

-- the variables at the answer places, and the atoms
pub record Question : Type 0 where
  pub answers : List (List ℕ)
  pub atoms : List Atom

-- the terms of an atom
abbrev pub terms_of : Atom → List Term
terms_of (atom.Concept name term) = term ∷ []
terms_of (atom.Role name from to) = from ∷ to ∷ []

-- the terms of a query's atoms, in order, each as often as it stands there
abbrev pub terms : Question → List Term
terms q = flat_map terms_of q.atoms

-- so many terms at most are distinct: each is one of so few
pub record HasFewTerms (q : Question) (most : ℕ) : Type 0 where
  pub few : List Term
  pub count : length few ≤ most
  pub each : All (Contains few) (terms q)

-- each variable has a bare name of at most 254 bytes
abbrev pub HasBareVariables : Question → Type 0
HasBareVariables q = (v : List ℕ) → Contains (terms q) (term.Var v) → IsVariableName v

-- 1 to 24 atoms, at most 24 answer places and 24 distinct terms, each answer variable is in an atom, and variables are bare
pub record IsQuery (q : Question) : Type 0 where
  pub some : 1 ≤ length q.atoms
  pub atoms : length q.atoms ≤ 24
  pub answers : length q.answers ≤ 24
  pub distinct : HasFewTerms q 24
  pub safe : All (λ v. Contains (terms q) (term.Var v)) q.answers
  pub variables : HasBareVariables q
