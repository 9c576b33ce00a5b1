-- What is completed of asserted rows.
use Rattle.std.specs.Prelude.{◌≡◌, ◌↔◌, ℕ, List, Contains, length}
use Rattle.dl_base.specs.Ontology.{Terminology}
use Rattle.dl_base.specs.Sets.{HasRole}
use Rattle.dl_base.specs.Tables.{TableRow}
use Rattle.dl_base.specs.declared.concept.Role.{Role}
use Rattle.dl_base.specs.declared.row.Row.{Row}
use Rattle.witness_book.specs.Witnesses.{Witnesses, generation_of}
use Rattle.completion.specs.Edges.{IsTableRow}
use Rattle.completion.specs.Individuals.{AreAtIndividuals}
use Rattle.completion.specs.Numbered.{IsLiveRole}
use Rattle.completion.specs.declared.individuals.AtIndividual.{AtIndividual}

-- what is derived at individuals, the book of witnesses, and the rows of the tables
pub record Completion : Type 0 where
  pub individuals : List (ℕ × AtIndividual)
  pub book : Witnesses
  pub rows : List TableRow

-- the book is for the roles of the ontology, and its live roles are those of the rows
pub record IsBookOf (o : Terminology) (rows : List Row) (b : Witnesses) : Type 0 where
  pub roles : b.roles ≡ length o.roles
  pub live : (r : Role) → HasRole b.live r ↔ IsLiveRole o rows r

-- the live roles were set once: each is in its first generation, and no other role has one
pub record IsFirstBook (o : Terminology) (rows : List Row) (b : Witnesses) : Type 0 where
  pub calls : b.calls ≡ 1
  pub first : (r : Role) → IsLiveRole o rows r → generation_of b r ≡ 1
  pub others : (r : Role) → (IsLiveRole o rows r → ⊥) → generation_of b r ≡ 0

-- it is what the ontology derives from the rows, each witness in the generation that the book has for its role
pub record IsCompletionOf (o : Terminology) (rows : List Row) (c : Completion) : Type 0 where
  pub individuals : AreAtIndividuals o rows c.individuals
  pub book : IsBookOf o rows c.book
  pub table : (row : TableRow) → Contains c.rows row ↔ IsTableRow o rows (generation_of c.book) row
