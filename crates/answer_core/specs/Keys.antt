-- Keys of the matches in a completed table that lift.
use Rattle.std.specs.Prelude.{◌≡◌, ℕ, List, Contains, slice_get, Some}
use Rattle.std.specs.List.{AllZip}
use Rattle.dl_base.specs.Ontology.{Terminology}
use Rattle.dl_base.specs.Query.{Question, terms}
use Rattle.dl_base.specs.Tables.{TableRow}
use Rattle.dl_base.specs.Matches.{IsMatch}
use Rattle.dl_base.specs.Lifting.{Lifts}
use Rattle.dl_base.specs.declared.concept.Role.{Role}
use Rattle.dl_base.specs.declared.element.Elem.{Elem}
use Rattle.dl_base.specs.declared.element.Elem.TheVariants as elem
use Rattle.dl_base.specs.declared.row.NamedRow.{NamedRow}
use Rattle.dl_base.specs.declared.query.Term.{Term}
use Rattle.dl_base.specs.declared.query.Term.TheVariants as term

-- the element is the individual of that name, by its number in the list of names
abbrev pub IsNumbered : List (List ℕ) → Elem → List ℕ → Type 0
IsNumbered names (elem.Named n) a = slice_get names n ≡ Some a
IsNumbered names (elem.Shared w) a = ⊥

-- A match of the query in the table lifts, has the key's individuals at the answer places, and each name of the query on its own
-- individual.
pub record IsKeyOf (o : Terminology) (rows : List NamedRow) (names : List (List ℕ)) (generation : Role → ℕ) (table : List TableRow) (q : Question) (key : List (List ℕ)) : Type 0 where
  pub place : Term → Elem
  pub match_is : IsMatch o table q place
  pub lifts : Lifts o rows names generation q place
  pub answers : AllZip (λ v a. IsNumbered names (place (term.Var v)) a) q.answers key
  pub names_are : (a : List ℕ) → Contains (terms q) (term.Named a) → IsNumbered names (place (term.Named a)) a
