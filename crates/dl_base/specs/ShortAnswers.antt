-- Certain answers by the short unfolding.
use Rattle.std.specs.Prelude.{◌≡◌, ℕ, List, map, Contains}
use Rattle.dl_base.specs.Ontology.{Terminology}
use Rattle.dl_base.specs.Query.{Question, terms}
use Rattle.dl_base.specs.Unfolding.{Element, Named}
use Rattle.dl_base.specs.Lifting.{IsShortPlacing}
use Rattle.dl_base.specs.declared.row.NamedRow.{NamedRow}
use Rattle.dl_base.specs.declared.query.Term.{Term}
use Rattle.dl_base.specs.declared.query.Term.TheVariants as term

-- The terms of the query can be placed on short elements so that each answer variable stands on the individual that the key
-- has at each of its places, each name stands on itself, and each atom holds.
pub record IsShortlyCertain (o : Terminology) (rows : List NamedRow) (q : Question) (key : List (List ℕ)) : Type 0 where
  pub place : Term → Element
  pub placed : IsShortPlacing o rows q place
  pub answers : map (λ v. place (term.Var v)) q.answers ≡ map Named key
  pub names : (a : List ℕ) → Contains (terms q) (term.Named a) → place (term.Named a) ≡ Named a
