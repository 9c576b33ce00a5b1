-- Laws of shapes, and a small one.
use Rattle.std.specs.Prelude.{◌≡◌, ◌≢◌, ◌↔◌, ℕ, List, [], ◌∷◌, length, map, codes, false, AllPairs}
use Rattle.dl_base.specs.Ontology.{Terminology}
use Rattle.dl_base.specs.Query.{Question}
use Rattle.dl_base.specs.Tables.{TableRow}
use Rattle.dl_base.specs.Matches.{IsMatch}
use Rattle.dl_base.specs.Lifting.{Lifts}
use Rattle.dl_base.specs.declared.concept.Role.{Role}
use Rattle.dl_base.specs.declared.element.Elem.{Elem}
use Rattle.dl_base.specs.declared.row.NamedRow.{NamedRow}
use Rattle.dl_base.specs.declared.query.Term.{Term}
use Rattle.dl_base.specs.declared.query.Term.TheVariants as term
use Rattle.dl_base.specs.declared.query.Atom.TheVariants as atom
use Rattle.query_shape.specs.declared.layout.ShapeAtom.TheVariants as shape
use Rattle.query_shape.specs.Lifting.{LiftsShape}
use Rattle.query_shape.specs.Shape.{Layout, IsShapeOf, IsShapeMatch}

-- the matches of a query are those of its shape, at the images of its terms
abbrev pub SameMatches : Type 0
SameMatches = (o : Terminology) (table : List TableRow) (q : Question) (s : Layout) (place : Term → Elem)
    → AllPairs (λ x y. x ≢ y) o.concepts → AllPairs (λ x y. x ≢ y) o.roles → IsShapeOf o q s
    → IsMatch o table q place ↔ IsShapeMatch table s (map place s.terms)

-- a placing lifts for a query exactly where the images of its terms lift for its shape
abbrev pub SameLifting : Type 0
SameLifting = (o : Terminology) (rows : List NamedRow) (names : List (List ℕ)) (generation : Role → ℕ) (q : Question) (s : Layout) (images : Term → Elem)
    → AllPairs (λ x y. x ≢ y) o.concepts → AllPairs (λ x y. x ≢ y) o.roles → IsShapeOf o q s
    → Lifts o rows names generation q images ↔ LiftsShape o rows names generation s (map images s.terms)

-- as many images as there are distinct terms are the images of the terms by some placing
abbrev pub EachPlacing : Type 0
EachPlacing = (terms : List Term) (images : List Elem) → AllPairs (λ t u. t ≢ u) terms → length images ≡ length terms
    → (place : Term → Elem) × (map place terms ≡ images)

-- a query has one shape in an ontology at most
abbrev pub ShapeOnce : Type 0
ShapeOnce = (o : Terminology) (q : Question) (s other : Layout)
    → AllPairs (λ x y. x ≢ y) o.concepts → AllPairs (λ x y. x ≢ y) o.roles → IsShapeOf o q s → IsShapeOf o q other → s ≡ other

-- a concept and a role
abbrev pub a_and_r : Terminology
a_and_r = record { concepts = codes "A" ∷ []; roles = codes "r" ∷ []; inclusions = [] }

-- who leads by r to something in A?
abbrev pub leads_to_a : Question
leads_to_a = record {
  answers = codes "y" ∷ [];
  atoms = atom.Concept (codes "A") (term.Var (codes "x")) ∷ atom.Role (codes "r") (term.Var (codes "y")) (term.Var (codes "x")) ∷ [];
}

-- x comes first in the atoms, so it has number 0, and y has 1
abbrev pub XIsFirst : Type 0
XIsFirst = IsShapeOf a_and_r leads_to_a (record {
  terms = term.Var (codes "x") ∷ term.Var (codes "y") ∷ [];
  atoms = shape.Concept 0 0 ∷ shape.Role (record { name = 0; inverse = false }) 1 0 ∷ [];
})
