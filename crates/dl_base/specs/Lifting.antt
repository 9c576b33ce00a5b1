-- Placings of a query on short elements, and the matches of completed tables that come from them.
use Rattle.std.specs.Prelude.{ℕ, List, Contains}
use Rattle.dl_base.specs.Ontology.{Terminology}
use Rattle.dl_base.specs.Query.{Question, terms}
use Rattle.dl_base.specs.Answers.{Holds}
use Rattle.dl_base.specs.Unfolding.{Element}
use Rattle.dl_base.specs.Completion.{Represents}
use Rattle.dl_base.specs.ShortUnfolding.{IsShort, node_of}
use Rattle.dl_base.specs.declared.concept.Role.{Role}
use Rattle.dl_base.specs.declared.element.Elem.{Elem}
use Rattle.dl_base.specs.declared.row.NamedRow.{NamedRow}
use Rattle.dl_base.specs.declared.query.Term.{Term}
use Rattle.dl_base.specs.declared.query.Atom.{Atom}

-- the terms of the query are placed on short elements so that each atom holds
pub record IsShortPlacing (o : Terminology) (rows : List NamedRow) (q : Question) (place : Term → Element) : Type 0 where
  pub short : (t : Term) → Contains (terms q) t → IsShort o rows (place t)
  pub atoms : (a : Atom) → Contains q.atoms a → Holds o rows place a

-- the image of each term is the node to which its place folds
abbrev pub IsFoldOf : List (List ℕ) → (Role → ℕ) → Question → (Term → Element) → (Term → Elem) → Type 0
IsFoldOf names generation q place images = (t : Term) → Contains (terms q) t → Represents names generation (images t) (node_of (place t))

-- the images come from a placing of the terms on short elements so that each atom holds
pub record Lifts (o : Terminology) (rows : List NamedRow) (names : List (List ℕ)) (generation : Role → ℕ) (q : Question) (images : Term → Elem) : Type 0 where
  pub place : Term → Element
  pub placed : IsShortPlacing o rows q place
  pub folds : IsFoldOf names generation q place images
