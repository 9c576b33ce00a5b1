-- Terms and atoms that get numbers one after another.
use Rattle.std.specs.Prelude.{◌≡◌, ◌⊎◌, ℕ, List, [], ◌∷◌, ◌++◌, Contains, slice_get, Some}
use Rattle.dl_base.specs.Ontology.{Terminology}
use Rattle.dl_base.specs.Query.{terms_of}
use Rattle.dl_base.specs.declared.query.Term.{Term}
use Rattle.dl_base.specs.declared.query.Atom.{Atom}
use Rattle.query_shape.specs.Shape.{AreFirsts, NumbersAtom}
use Rattle.query_shape.specs.declared.layout.ShapeAtom.{ShapeAtom}

-- the terms are as they were where they have this one, and else it goes last
abbrev pub IsWith : List Term → Term → List Term → Type 0
IsWith old t new = ((new ≡ old) × Contains old t) ⊎ ((new ≡ old ++ t ∷ []) × (Contains old t → ⊥))

-- the number of the term among the terms with it
pub record NumbersTerm (old : List Term) (t : Term) (new : List Term) (number : ℕ) : Type 0 where
  pub with_it : IsWith old t new
  pub there : slice_get new number ≡ Some t

-- the atom by numbers among the terms with its own, where old terms keep their numbers
pub record IsNumberedAtom (o : Terminology) (old : List Term) (a : Atom) (new : List Term) (s : ShapeAtom) : Type 0 where
  pub added : List Term
  pub last : new ≡ old ++ added
  pub occur : (all : List Term) → AreFirsts all old → AreFirsts (all ++ terms_of a) new
  pub numbers : NumbersAtom o new a s
