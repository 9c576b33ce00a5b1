-- Queries by numbers, and the matches of these.
use Rattle.std.specs.Prelude.{◌≡◌, ◌≢◌, ◌⊎◌, ◌<◌, ◌≤◌, ℕ, false, List, [], ◌∷◌, ◌++◌, length, All, AllPairs, Contains, slice_get, Some}
use Rattle.std.specs.List.{AllZip}
use Rattle.dl_base.specs.Ontology.{Terminology}
use Rattle.dl_base.specs.Query.{Question, terms}
use Rattle.dl_base.specs.Tables.{TableRow, ConceptRow, edge_row}
use Rattle.dl_base.specs.declared.element.Elem.{Elem}
use Rattle.dl_base.specs.declared.query.Term.{Term}
use Rattle.dl_base.specs.declared.query.Atom.{Atom}
use Rattle.dl_base.specs.declared.query.Atom.TheVariants as atom
use Rattle.query_shape.specs.declared.layout.ShapeAtom.{ShapeAtom}
use Rattle.query_shape.specs.declared.layout.ShapeAtom.TheVariants as shape

-- numbered terms, and atoms by these numbers and by places of an ontology's names
pub record Layout : Type 0 where
  pub terms : List Term
  pub atoms : List ShapeAtom

-- the distinct ones of these items, in the order in which they first occur
pub data AreFirsts {X : Type 0} : List X → List X → Type 0 where
  no_item : AreFirsts [] []
  known_item : {all distinct : List X} (x : X) → AreFirsts all distinct → Contains distinct x → AreFirsts (all ++ x ∷ []) distinct
  new_item : {all distinct : List X} (x : X) → AreFirsts all distinct → (Contains distinct x → ⊥) → AreFirsts (all ++ x ∷ []) (distinct ++ x ∷ [])

-- the atom by the place of its name and the numbers of its terms
abbrev pub NumbersAtom : Terminology → List Term → Atom → ShapeAtom → Type 0
NumbersAtom o ts (atom.Concept name t) (shape.Concept c n) = (slice_get o.concepts c ≡ Some name) × (slice_get ts n ≡ Some t)
NumbersAtom o ts (atom.Role name t u) (shape.Role r n m) = (slice_get o.roles r.name ≡ Some name) × (r.inverse ≡ false) × (slice_get ts n ≡ Some t) × (slice_get ts m ≡ Some u)
NumbersAtom o ts (atom.Concept name t) (shape.Role r n m) = ⊥
NumbersAtom o ts (atom.Role name t u) (shape.Concept c n) = ⊥

-- the shape of the query in the ontology
pub record IsShapeOf (o : Terminology) (q : Question) (s : Layout) : Type 0 where
  pub terms_are : AreFirsts (terms q) s.terms
  pub atoms_are : AllZip (NumbersAtom o s.terms) q.atoms s.atoms

-- the term of this number is in the atom
abbrev pub IsTermOf : ℕ → ShapeAtom → Type 0
IsTermOf k (shape.Concept c n) = k ≡ n
IsTermOf k (shape.Role r n m) = (k ≡ n) ⊎ (k ≡ m)

-- the atom's terms are below this number
abbrev pub IsBelow : ℕ → ShapeAtom → Type 0
IsBelow count (shape.Concept c n) = n < count
IsBelow count (shape.Role r n m) = (n < count) × (m < count)

-- 1 to 24 atoms over at most 24 distinct terms, each of which is in some atom
pub record IsLayout (s : Layout) : Type 0 where
  pub some : 1 ≤ length s.atoms
  pub atoms : length s.atoms ≤ 24
  pub terms : length s.terms ≤ 24
  pub distinct : AllPairs (λ t u. t ≢ u) s.terms
  pub below : All (IsBelow (length s.terms)) s.atoms
  pub used : (k : ℕ) → k < length s.terms → (a : ShapeAtom) × Contains s.atoms a × IsTermOf k a

-- the atom is a row of the table where its terms have these images
abbrev pub HoldsAt : List TableRow → List Elem → ShapeAtom → Type 0
HoldsAt table images (shape.Concept c n) = (e : Elem) × (slice_get images n ≡ Some e) × Contains table (ConceptRow c e)
HoldsAt table images (shape.Role r n m) = (e : Elem) × (f : Elem) × (slice_get images n ≡ Some e) × (slice_get images m ≡ Some f) × Contains table (edge_row r e f)

-- an image for each term, such that each atom is a row of the table
pub record IsShapeMatch (table : List TableRow) (s : Layout) (images : List Elem) : Type 0 where
  pub count : length images ≡ length s.terms
  pub atoms : (a : ShapeAtom) → Contains s.atoms a → HoldsAt table images a
