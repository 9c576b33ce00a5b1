-- Matches of a shape that come from the short unfolding.
use Rattle.std.specs.Prelude.{◌≡◌, ◌≢◌, ◌↔◌, ◌<◌, ℕ, Bool, IsTrue, List, length, AllPairs, Contains, slice_get, Some}
use Rattle.dl_base.specs.Ontology.{Terminology}
use Rattle.dl_base.specs.Unfolding.{Element, DerivedAt, Edge}
use Rattle.dl_base.specs.Completion.{AreCompleted, Represents}
use Rattle.dl_base.specs.Tables.{TableRow}
use Rattle.dl_base.specs.ShortUnfolding.{IsShort, node_of}
use Rattle.dl_base.specs.declared.concept.Role.{Role}
use Rattle.dl_base.specs.declared.concept.Basic.TheVariants as basic
use Rattle.dl_base.specs.declared.element.Elem.{Elem}
use Rattle.dl_base.specs.declared.row.NamedRow.{NamedRow}
use Rattle.query_shape.specs.Shape.{Layout, IsShapeMatch}
use Rattle.query_shape.specs.declared.layout.ShapeAtom.{ShapeAtom}
use Rattle.query_shape.specs.declared.layout.ShapeAtom.TheVariants as shape

-- the atom holds where the terms of these numbers are placed
abbrev pub HoldsOn : Terminology → List NamedRow → (ℕ → Element) → ShapeAtom → Type 0
HoldsOn o rows place (shape.Concept c n) = DerivedAt o rows (place n) (basic.Concept c)
HoldsOn o rows place (shape.Role r n m) = Edge o rows r (place n) (place m)

-- there is an image for each term, and the terms can be placed on short elements that fold to these so that each atom holds
pub record LiftsShape (o : Terminology) (rows : List NamedRow) (names : List (List ℕ)) (generation : Role → ℕ) (s : Layout) (images : List Elem) : Type 0 where
  pub count : length images ≡ length s.terms
  pub place : ℕ → Element
  pub short : (k : ℕ) → k < length s.terms → IsShort o rows (place k)
  pub folds : (k : ℕ) (e : Elem) → slice_get images k ≡ Some e → Represents names generation e (node_of (place k))
  pub atoms : (a : ShapeAtom) → Contains s.atoms a → HoldsOn o rows place a

-- where the images are a match of completed tables whose individuals have distinct names, the answer is whether it lifts
abbrev pub DecidesLifting : Layout → List Elem → Bool → Type 0
DecidesLifting s images answer = (o : Terminology) (rows : List NamedRow) (names : List (List ℕ)) (generation : Role → ℕ) (table : List TableRow)
    → AllPairs (λ x y. x ≢ y) names → AreCompleted o rows names generation table → IsShapeMatch table s images
    → IsTrue answer ↔ LiftsShape o rows names generation s images
