-- What is completed of the rows by names that rows by numbers stand for.
use Rattle.std.specs.Prelude.{◌≡◌, ◌↔◌, ℕ, List, Contains, Some, slice_get}
use Rattle.dl_base.specs.Completion.{AreCompleted, IsLive}
use Rattle.dl_base.specs.Ontology.{Terminology}
use Rattle.dl_base.specs.Rows.{Held, IsIndividual}
use Rattle.dl_base.specs.Sets.{HasRole}
use Rattle.dl_base.specs.declared.concept.Role.{Role}
use Rattle.dl_base.specs.declared.row.NamedRow.{NamedRow}
use Rattle.horn_closure.specs.Closure.{IsClosure}
use Rattle.witness_book.specs.Witnesses.{generation_of}
use Rattle.completion.specs.Completed.{Completion}
use Rattle.completion.specs.Individuals.{IsKept, found_at}
use Rattle.completion.specs.declared.individuals.AtIndividual.{AtIndividual}

-- By names: what is kept are the individuals of the rows, each with the closure of what it holds, the live roles are those of
-- the rows, and the rows of the tables are the completed ones, each witness in its role's generation.
pub record IsNamedCompletion (o : Terminology) (names : List (List ℕ)) (these : List NamedRow) (c : Completion) : Type 0 where
  pub numbered : (a : List ℕ) → IsIndividual these a → Contains names a
  pub individuals : (n : ℕ) → IsKept c.individuals n ↔ ((a : List ℕ) × (slice_get names n ≡ Some a) × IsIndividual these a)
  pub derived : (n : ℕ) (a : List ℕ) (x : AtIndividual) → slice_get names n ≡ Some a → found_at c.individuals n ≡ Some x → IsClosure o.inclusions (Held o these a) x.closed
  pub live : (r : Role) → HasRole c.book.live r ↔ IsLive o these r
  pub tables : AreCompleted o these names (generation_of c.book) c.rows
