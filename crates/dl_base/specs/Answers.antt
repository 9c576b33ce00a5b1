-- Certain answers.
use Rattle.std.specs.Prelude.{◌≡◌, ◌↔◌, ℕ, List, map, All, Contains}
use Rattle.std.specs.Cmp.Lexicographic.{slice_cmp}
use Rattle.std.specs.declared.cmp.Ordering.{Ordering}
use Rattle.std.specs.List.Sorted.{IsStrictlySortedBy}
use Rattle.dl_base.specs.Ontology.{Terminology}
use Rattle.dl_base.specs.Query.{Question, terms}
use Rattle.dl_base.specs.Rows.{IsIndividual, name_cmp}
use Rattle.dl_base.specs.Unfolding.{Element, Named, Exists, HoldsConcept, HoldsRole}
use Rattle.dl_base.specs.declared.row.NamedRow.{NamedRow}
use Rattle.dl_base.specs.declared.query.Term.{Term}
use Rattle.dl_base.specs.declared.query.Term.TheVariants as term
use Rattle.dl_base.specs.declared.query.Atom.{Atom}
use Rattle.dl_base.specs.declared.query.Atom.TheVariants as atom

-- the atom holds where its terms are placed
abbrev pub Holds : Terminology → List NamedRow → (Term → Element) → Atom → Type 0
Holds o rows place (atom.Concept name t) = HoldsConcept o rows name (place t)
Holds o rows place (atom.Role name t u) = HoldsRole o rows name (place t) (place u)

-- The terms of the query can be placed on existing elements so that each answer variable stands on the individual that
-- the key has at each of its places, each name stands on itself, and each atom holds.
pub record IsCertain (o : Terminology) (rows : List NamedRow) (q : Question) (key : List (List ℕ)) : Type 0 where
  pub place : Term → Element
  pub exist : (t : Term) → Contains (terms q) t → Exists o rows (place t)
  pub answers : map (λ v. place (term.Var v)) q.answers ≡ map Named key
  pub names : (a : List ℕ) → Contains (terms q) (term.Named a) → place (term.Named a) ≡ Named a
  pub atoms : (t : Atom) → Contains q.atoms t → Holds o rows place t

-- keys are ordered position by position
abbrev pub key_cmp : List (List ℕ) → List (List ℕ) → Ordering
key_cmp = slice_cmp name_cmp

-- the strictly rising list of the keys over the individuals that are certain
pub record AreAnswers (o : Terminology) (rows : List NamedRow) (q : Question) (keys : List (List (List ℕ))) : Type 0 where
  pub rising : IsStrictlySortedBy key_cmp keys
  pub members : (key : List (List ℕ)) → Contains keys key ↔ (All (IsIndividual rows) key × IsCertain o rows q key)
